use Rattle.services.proofs.LoneLaws.{beginning}
use Rattle.services.proofs.lone.beginning_law.Goals as goal

pub returns : goal.returns
returns g c = beginning g.S.Service.step g.S.Service.result_of
