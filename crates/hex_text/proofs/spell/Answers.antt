use Rattle.std.proofs.Common.{get_or, rules}
use Rattle.std.proofs.Output.{has_written_append, has_written_of_eq}
use Rattle.hex_text.proofs.Turns.{spelling_more, two_digits}
use Rattle.hex_text.proofs.spell.Goals as goal

pub loop-b-preserved : goal.loop-b-preserved
loop-b-preserved g c = λ p.
    has_written_of_eq _ _ _ _ _ (spelling_more c.args.bytes.now c.loop-b.b-index c.loop-b-test.true (c.type_inv.bytes c.loop-b.b-index).fits)
    (has_written_append _ _ _ _ (two_digits (get_or c.args.bytes.now c.loop-b.b-index 0)) _ (c.loop-b.invariant p) (search rules))
