-- The head, the view and the view states.
use Rattle.std.proofs.Common.{ap}
use Rattle.records.specs.Writing.{new_view_body, states_bytes}
use Rattle.outbox.proofs.Pens.{wrote_then, wrote_as}
use Rattle.outbox.proofs.said.put_new_view.Goals as goal

pub returns : goal.returns
unfolding new_view_body states_bytes
returns c = wrote_then c.in_ok-put_head.ensures (wrote_then c.in_ok-put.ensures (wrote_as (ap states_bytes c.as_slice.ensures.value) c.counted.ensures))
