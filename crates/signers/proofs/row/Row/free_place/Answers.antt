use Rattle.std.proofs.Common.{◌∙◌, rules, tests}
use Rattle.std.proofs.lemmas.Iterator.{YieldsList-from_slice}
use Rattle.std.proofs.lemmas.Iterator.Search.{position_from_yields_List}
use Rattle.signers.proofs.Rows.{free_by_position}
use Rattle.signers.proofs.row.Row.free_place.Goals as goal

pub returns-clause-answer : goal.returns-clause-answer
returns-clause-answer g c =
    position_from_yields_List _ _ _ _ c.position.ensures.ran (YieldsList-from_slice c.args.self.now cc) (λ x b q k. search (rules, tests))
    ∙ free_by_position c.args.self.now
