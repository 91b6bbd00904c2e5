-- The theorem that the contract states.
use Rattle.agreement.proofs.OneList.{one_list_holds}
use Rattle.agreement.proofs.one_list.Goals as goal

pub returns : goal.returns
returns g c = one_list_holds g.R.Ring.Request g.R.Ring.same g.R.Ring.sealed
