-- The claim, and then the result.
use Rattle.records.specs.Writing.{inform_body}
use Rattle.outbox.proofs.Pens.{wrote_then}
use Rattle.outbox.proofs.said.put_inform.Goals as goal

pub returns : goal.returns
unfolding inform_body
returns c = wrote_then c.in_ok-put_claim.ensures c.put.ensures
