-- Each turn spells one byte more; two characters that spell none end it.
use Rattle.std.proofs.Common.{Some, sym, ap, ◌∙◌, arith}
use Rattle.hex_text.proofs.Turns.{pair_spells, spelled_more, spelled_stop}
use Rattle.hex_text.proofs.decode.Goals as goal

pub returns-in_default-byte : goal.returns-in_default-byte
returns-in_default-byte c =
    let e = pair_spells c.args.text.now _ c.loop-high.high-index _ c.as_chunks.ensures.front (omega arith) c.byte.ensures in
    sym (spelled_stop c.args.text.now c.loop-high.high-index _ (omega arith) (omega arith) c.loop-high.invariant (e ∙ c.in_default-byte.is))

pub loop-high-preserved : goal.loop-high-preserved
loop-high-preserved c =
    let e = pair_spells c.args.text.now _ c.loop-high.high-index _ c.as_chunks.ensures.front (omega arith) c.byte.ensures in
    spelled_more c.args.text.now c.loop-high.high-index _ _ c.loop-high.invariant (e ∙ c.in-Some.is)
    ∙ ap Some (sym c.in_ok-push.ensures.items)
