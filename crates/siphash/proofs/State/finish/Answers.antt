use Rattle.siphash.specs.Siphash.{finished, marked, folded}
use Rattle.siphash.proofs.State.finish.Goals as goal

pub returns : goal.returns
unfolding finished marked folded
returns c = cc
