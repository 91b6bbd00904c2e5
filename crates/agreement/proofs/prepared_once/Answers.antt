-- The theorem that the contract states.
use Rattle.agreement.proofs.Agreement.{prepared_once_holds}
use Rattle.agreement.proofs.prepared_once.Goals as goal

pub returns : goal.returns
returns g c = prepared_once_holds g.R.Ring.Request g.R.Ring.sealed
