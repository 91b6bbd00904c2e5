-- The head, the view, the commit and the prepared certificates.
use Rattle.std.proofs.Common.{ap}
use Rattle.records.specs.Writing.{state_body, prepared_bytes}
use Rattle.outbox.proofs.Pens.{wrote_then, wrote_fault, wrote_as}
use Rattle.outbox.proofs.said.put_state.Goals as goal

pub returns-in_err-put-2 : goal.returns-in_err-put-2
unfolding state_body
returns-in_err-put-2 c =
    wrote_then c.in_ok-put_head.ensures (wrote_then c.in_ok-put.ensures (wrote_fault _ c.in_err-put-2.ensures c.from_residual-in_err-put-2.ensures.1))

pub returns : goal.returns
unfolding state_body prepared_bytes
returns c = wrote_then c.in_ok-put_head.ensures (wrote_then c.in_ok-put.ensures (wrote_then c.in_ok-put-2.ensures (wrote_as (ap prepared_bytes c.as_slice.ensures.value) c.counted.ensures)))
