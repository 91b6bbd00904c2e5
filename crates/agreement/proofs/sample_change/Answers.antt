-- The run that the contract asks for.
use Rattle.agreement.proofs.Samples.{sample_change}
use Rattle.agreement.proofs.sample_change.Goals as goal

pub returns : goal.returns
returns c = sample_change
