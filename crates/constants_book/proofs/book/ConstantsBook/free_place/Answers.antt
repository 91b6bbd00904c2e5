use Rattle.std.proofs.Common.{rules, tests}
use Rattle.std.specs.Option.{is_none}
use Rattle.constants_book.proofs.Searches.{free_found}
use Rattle.std.proofs.lemmas.Iterator.{YieldsList-from_slice}
use Rattle.std.proofs.lemmas.Iterator.Search.{position_from_yields_List}
use Rattle.constants_book.proofs.book.ConstantsBook.free_place.Goals as goal

pub returns : goal.returns
returns c =
    free_found c.args.self.now.places c.position.result
    (position_from_yields_List is_none _ _ c.position.result c.position.ensures.ran
    (YieldsList-from_slice c.args.self.now.places cc) (λ x b q k. search (rules, tests)))
