-- The head, and then the proposal.
use Rattle.records.specs.Writing.{claim_bytes}
use Rattle.outbox.proofs.Pens.{wrote_then}
use Rattle.outbox.proofs.said.put_claim.Goals as goal

pub returns : goal.returns
unfolding claim_bytes
returns c = wrote_then c.in_ok-put_head.ensures c.put.ensures
