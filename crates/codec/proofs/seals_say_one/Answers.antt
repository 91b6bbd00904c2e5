-- The law that the contract states.
use Rattle.codec.proofs.Laws.{says_one}
use Rattle.codec.proofs.seals_say_one.Goals as goal

pub returns-clause-one : goal.returns-clause-one
returns-clause-one c = says_one
