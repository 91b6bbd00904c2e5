-- The run that the contract asks for.
use Rattle.agreement.proofs.Samples.{sample_commit}
use Rattle.agreement.proofs.sample_commit.Goals as goal

pub returns : goal.returns
returns c = sample_commit
