use Rattle.constants_book.proofs.Carrying.{looked_up}
use Rattle.constants_book.proofs.book.ConstantsBook.offset.Goals as goal
use Rattle.std.proofs.Common.{rules}

pub returns : goal.returns
returns c =
    let b = c.args.self.now in
    let e = looked_up b.places c.in_ok-place.place c.args.serial _ b.distinct (rw c.in_ok-place.was at c.place_of.ensures) c.index-self-place.is in
    search (rules, e)
