use Rattle.std.proofs.Common.{rules, tests}
use Rattle.constants_book.proofs.Searches.{of_serial, place_found}
use Rattle.std.proofs.lemmas.Iterator.{YieldsList-from_slice}
use Rattle.std.proofs.lemmas.Iterator.Search.{position_from_yields_List}
use Rattle.constants_book.proofs.book.ConstantsBook.place_of.Goals as goal

pub returns : goal.returns
returns c =
    place_found c.args.serial c.args.self.now.places c.position.result
    (position_from_yields_List (of_serial c.args.serial) _ _ c.position.result c.position.ensures.ran
    (YieldsList-from_slice c.args.self.now.places cc) (λ x b q k. search (rules, tests)))
