-- After i of them the first i stand one after another.
use Rattle.std.proofs.Common.{take, Ok}
use Rattle.std.specs.List.{flat_map}
use Rattle.outbox.specs.Pens.{Wrote}
use Rattle.outbox.proofs.pen.Pen.each.Given as goal

abbrev pub invariant-loop-part : goal.invariant-loop-part
invariant-loop-part g l = Wrote l.initial.self l.self (flat_map g.T.Put.bytes (take l.part-index l.parts)) (Ok tt)
