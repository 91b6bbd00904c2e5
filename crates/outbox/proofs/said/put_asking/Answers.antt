-- The mark, and then what is asked.
use Rattle.outbox.proofs.Pens.{wrote_then}
use Rattle.outbox.proofs.said.put_asking.Goals as goal

pub returns : goal.returns
returns c = wrote_then c.in_ok-put.ensures c.put_asked.ensures
