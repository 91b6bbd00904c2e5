-- The law that the contract states.
use Rattle.codec.proofs.Laws.{certificate_length}
use Rattle.codec.proofs.figures_are.Goals as goal

pub returns-clause-certificates : goal.returns-clause-certificates
returns-clause-certificates c = certificate_length
