-- The mark, and then the sender.
use Rattle.records.specs.Writing.{head_bytes}
use Rattle.outbox.proofs.Pens.{wrote_then}
use Rattle.outbox.proofs.said.put_head.Goals as goal

pub returns : goal.returns
unfolding head_bytes
returns c = wrote_then c.in_ok-put.ensures c.put-2.ensures
