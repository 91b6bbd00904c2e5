use Rattle.constants_book.proofs.Carrying.{apart_cleared}
use Rattle.constants_book.proofs.book.ConstantsBook.clear.Goals as goal
use Rattle.std.proofs.lemmas.List.{length-set}
use Rattle.std.proofs.Common.{None, ◌∙◌}

pub invariant_of-self : goal.invariant_of-self
invariant_of-self c =
    let b = c.args.self.now in
    let i = c.in_ok-place.place in
    record {
      distinct = apart_cleared b.places i _ b.distinct (rw c.in_ok-place.ensures.ok_part at c.place_of.ensures);
      sized = length-set b.places i None ∙ b.sized;
    }
