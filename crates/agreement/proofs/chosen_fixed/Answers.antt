-- The theorem that the contract states.
use Rattle.agreement.proofs.Agreement.{chosen_fixed_holds}
use Rattle.agreement.proofs.chosen_fixed.Goals as goal

pub returns : goal.returns
returns g c = chosen_fixed_holds g.R.Ring.Request g.R.Ring.sealed
