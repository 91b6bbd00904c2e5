-- The law of quorums, as the contract states it.
use Rattle.quorum.proofs.Sets.{quorums_share}
use Rattle.quorum.proofs.quorums_share.Goals as goal

pub returns : goal.returns
returns c = quorums_share
