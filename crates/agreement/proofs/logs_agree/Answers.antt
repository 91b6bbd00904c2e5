-- The theorem that the contract states.
use Rattle.agreement.proofs.Agreement.{logs_agree_holds}
use Rattle.agreement.proofs.logs_agree.Goals as goal

pub returns : goal.returns
returns g c = logs_agree_holds g.R.Ring.Request g.R.Ring.sealed
