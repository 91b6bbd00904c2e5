-- The view state, and then its seal.
use Rattle.records.specs.Writing.{state_bytes}
use Rattle.outbox.proofs.Pens.{wrote_then}
use Rattle.outbox.proofs.said.ViewStatePut.put.Goals as goal

pub returns : goal.returns
unfolding state_bytes
returns c = wrote_then c.in_ok-put_state.ensures c.put.ensures
