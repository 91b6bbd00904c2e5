-- Each turn puts one more; a fault at one is the fault of all.
use Rattle.outbox.proofs.Pens.{each_more, each_fault}
use Rattle.outbox.proofs.pen.Pen.each.Goals as goal

pub loop-part-preserved : goal.loop-part-preserved
loop-part-preserved g c =
    each_more g.T.Put.bytes c.args.parts.now _ c.loop-part.invariant c.loop-part-test.true c.part-item.is c.in_ok-put.ensures

pub returns-in_err-put : goal.returns-in_err-put
returns-in_err-put g c =
    each_fault g.T.Put.bytes c.args.parts.now _ c.loop-part.invariant c.loop-part-test.true c.part-item.is c.in_err-put.ensures c.from_residual.ensures.1
