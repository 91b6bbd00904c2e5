use Rattle.std.proofs.Common.{Some, sym, ap, ◌∙◌, arith}
use Rattle.std.proofs.lemmas.List.{take_more_set, length-set}
use Rattle.hex_text.proofs.Turns.{next_pair, next_spells, spelled_more, spelled_stop, exactly_none, exactly_other}
use Rattle.hex_text.proofs.array.Goals as goal

pub returns-then-pairs : goal.returns-then-pairs
returns-then-pairs g c = exactly_other c.args.text.now g.row.N (λ same. c.if-pairs.true (c.as_chunks.ensures.front_len ∙ same))

pub returns-in_err-slot : goal.returns-in_err-slot
returns-in_err-slot g c =
    let e = next_spells c.args.text.now _ _ c.loop-slot.slot-index _ _ _ (c.iter-pairs.ensures.rest ∙ c.as_chunks.ensures.front) (omega arith) (omega arith) c.loop-slot.invariant.1.1 c.in_ok-high.ensures.steps c.byte.ensures in
    c.from_residual-in_err-slot.ensures ∙ exactly_none c.args.text.now g.row.N (spelled_stop c.args.text.now c.loop-slot.slot-index _ (omega arith) (omega arith) c.loop-slot.invariant.0 (e ∙ c.in_err-slot.was))

pub loop-slot-preserved : goal.loop-slot-preserved
loop-slot-preserved g c =
    let e = next_spells c.args.text.now _ _ c.loop-slot.slot-index _ _ _ (c.iter-pairs.ensures.rest ∙ c.as_chunks.ensures.front) (omega arith) (omega arith) c.loop-slot.invariant.1.1 c.in_ok-high.ensures.steps c.byte.ensures in (
      spelled_more c.args.text.now c.loop-slot.slot-index _ _ c.loop-slot.invariant.0 (e ∙ c.in_ok-slot.was)
          ∙ ap Some (sym (take_more_set c.loop-slot.slot-items c.loop-slot.slot-index c.in_ok-slot.field-0 (omega arith))),
      (
        length-set c.loop-slot.slot-items c.loop-slot.slot-index c.in_ok-slot.field-0 ∙ c.loop-slot.invariant.1.0,
        (next_pair _ _ _ c.loop-slot.slot-index _ (omega arith) c.loop-slot.invariant.1.1 c.in_ok-high.ensures.steps).1,
      ),
    )
