use Rattle.siphash.specs.Siphash.{sipround, step_one, step_two, step_three, step_four, plus, rotated}
use Rattle.siphash.proofs.State.round.Goals as goal

pub returns : goal.returns
unfolding sipround step_one step_two step_three step_four plus rotated
returns c = cc
