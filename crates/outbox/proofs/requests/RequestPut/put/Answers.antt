-- What is asked, and then the seal.
use Rattle.records.specs.Writing.{request_bytes}
use Rattle.outbox.proofs.Pens.{wrote_then}
use Rattle.outbox.proofs.requests.RequestPut.put.Goals as goal

pub returns : goal.returns
unfolding request_bytes
returns c = wrote_then c.in_ok-put_asked.ensures c.put.ensures
