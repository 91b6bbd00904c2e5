-- The proposal, and then the seals.
use Rattle.records.specs.Writing.{certificate_bytes}
use Rattle.outbox.proofs.Pens.{wrote_then}
use Rattle.outbox.proofs.certificates.CertificatePut.put.Goals as goal

pub returns : goal.returns
unfolding certificate_bytes
returns c = wrote_then c.in_ok-put.ensures c.put-2.ensures
