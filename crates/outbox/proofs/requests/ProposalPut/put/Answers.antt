-- The view, the round and the request.
use Rattle.records.specs.Writing.{proposal_bytes}
use Rattle.outbox.proofs.Pens.{wrote_then}
use Rattle.outbox.proofs.requests.ProposalPut.put.Goals as goal

pub returns : goal.returns
unfolding proposal_bytes
returns c = wrote_then c.in_ok-put.ensures (wrote_then c.in_ok-put-2.ensures c.put-3.ensures)
