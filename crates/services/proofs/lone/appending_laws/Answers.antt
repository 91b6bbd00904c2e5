use Rattle.services.proofs.LoneLaws.{appending}
use Rattle.services.proofs.lone.appending_laws.Goals as goal

pub returns : goal.returns
returns g c = appending g.S.Service.step g.S.Service.result_of
