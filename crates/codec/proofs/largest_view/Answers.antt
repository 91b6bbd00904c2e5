-- The laws that the contract states.
use Rattle.codec.proofs.Laws.{view_most, view_largest}
use Rattle.codec.proofs.largest_view.Goals as goal

pub returns : goal.returns
returns c = record { most = view_most; largest = view_largest }
