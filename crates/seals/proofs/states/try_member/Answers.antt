-- What the seal of a view state covers is short.
use Rattle.quorum.specs.Rings.{stations_of}
use Rattle.seals.proofs.Short.{state_short}
use Rattle.seals.proofs.states.try_member.Goals as goal

pub try_seal-requires : goal.try_seal-requires
try_seal-requires g c = state_short (stations_of c.args.placed.ring) c.args.placed.ring.few c.args.placed.state.now c.requires
