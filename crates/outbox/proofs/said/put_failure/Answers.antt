-- The head, and then the view.
use Rattle.records.specs.Writing.{failure_body}
use Rattle.outbox.proofs.Pens.{wrote_then}
use Rattle.outbox.proofs.said.put_failure.Goals as goal

pub returns : goal.returns
unfolding failure_body
returns c = wrote_then c.in_ok-put_head.ensures c.put.ensures
