-- The inform that was taken in goes to its station's place.
use Rattle.counter.proofs.Facts.{still_placed, still_sound}
use Rattle.counter.proofs.state.Counter.hear.Goals as goal

pub invariant_of-self : goal.invariant_of-self
invariant_of-self g c = still_placed (g.B.SealBox.genuine c.args.seals.now) _ _ c.self.view_is c.args.bytes.now c.in-Some.asked c.in_ok-inform.inform c.from.result c.in_ok-inform.ensures c.in-Some.is c.from.ensures c.self.invariant

pub returns-in-Some-clause-sound : goal.returns-in-Some-clause-sound
returns-in-Some-clause-sound g c = still_sound (g.B.SealBox.genuine c.args.seals.now) _ _ c.self.view_is c.args.bytes.now c.in-Some.asked c.in_ok-inform.inform c.from.result c.in_ok-inform.ensures c.in-Some.is c.from.ensures
