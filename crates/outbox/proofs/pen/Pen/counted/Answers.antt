-- The count, and then the parts.
use Rattle.outbox.proofs.Pens.{wrote_then}
use Rattle.outbox.proofs.pen.Pen.counted.Goals as goal

pub returns : goal.returns
returns g c = wrote_then c.in_ok-put.ensures c.each.ensures
