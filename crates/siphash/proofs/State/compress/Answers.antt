use Rattle.siphash.specs.Siphash.{compressed, mixed_high, mixed_low}
use Rattle.siphash.proofs.State.compress.Goals as goal

pub returns : goal.returns
unfolding compressed mixed_high mixed_low
returns c = cc
