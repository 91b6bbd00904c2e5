-- The client, the sequence and the payload.
use Rattle.records.specs.Writing.{asked_bytes}
use Rattle.outbox.proofs.Pens.{wrote_then}
use Rattle.outbox.proofs.requests.put_asked.Goals as goal

pub returns : goal.returns
unfolding asked_bytes
returns c = wrote_then c.in_ok-put.ensures (wrote_then c.in_ok-put-2.ensures c.write.ensures)
