-- The laws that the contract states.
use Rattle.codec.proofs.Laws.{covered_first, covered_length}
use Rattle.codec.proofs.seals_cover_the_first.Goals as goal

pub returns : goal.returns
returns c = record { first = covered_first; long = covered_length }
