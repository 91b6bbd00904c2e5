use Rattle.std.proofs.Common.{eqb, ap, ◌∙◌, rules, tests}
use Rattle.std.specs.Option.{option_map}
use Rattle.std.proofs.lemmas.Iterator.{YieldsList-from_slice}
use Rattle.std.proofs.lemmas.Iterator.Adapters.{YieldsList-from_flatten}
use Rattle.std.proofs.lemmas.Iterator.Search.{find_from_yields_List}
use Rattle.signers.proofs.Rows.{found_by_find, option_yields, mapped}
use Rattle.signers.proofs.row.Row.secret.Goals as goal

pub returns : goal.returns
returns g c =
    let road = YieldsList-from_flatten _ _ _ _ (λ x j b. option_yields x.now b.0 b.1) (YieldsList-from_slice c.args.self.now cc) c.flatten.ensures.front c.flatten.ensures.back c.flatten.ensures.done in
    let e = find_from_yields_List (λ entry. eqb entry.number c.args.number) _ _ c.find.result c.find.ensures.ran road (λ x b q k. search (rules, tests)) in
    mapped (λ y. y.now) (λ entry. entry.secret) c.find.result c.map.result _ c.map.ensures.cases (λ x y p. search (rules, tests))
    ∙ ap (option_map (λ entry. entry.secret)) e
    ∙ found_by_find c.args.self.now c.args.number
