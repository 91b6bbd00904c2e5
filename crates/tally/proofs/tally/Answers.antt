use Rattle.std.proofs.Common.{sym, ap, ◌∙◌, arith, leb, rules, tests}
use Rattle.std.specs.Option.{option_map}
use Rattle.std.proofs.lemmas.Iterator.{YieldsList-from_slice}
use Rattle.std.proofs.lemmas.Iterator.Search.{find_from_yields_List}
use Rattle.tally.specs.Tallies.{shared}
use Rattle.tally.proofs.Turns.{carried}
use Rattle.tally.proofs.tally.Goals as goal

pub returns : goal.returns
returns g c =
    let e = find_from_yields_List (λ w. leb c.args.m (shared g.W.Word.signer g.W.Word.same c.args.words.now w)) _ _ c.find.result c.find.ensures.ran (YieldsList-from_slice c.args.words.now cc) (λ x b q k. search (rules, tests)) in (
      omega arith,
      carried g.W.Word.signer g.W.Word.same c.args.m c.args.words.now c.args.words.now c.in_ok-word.word.now c.signer.result c.signer.ensures (ap (option_map (λ x. x.now)) (sym c.in_ok-word.was) ∙ e),
    )
