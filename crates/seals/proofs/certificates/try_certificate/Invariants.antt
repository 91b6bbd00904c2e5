-- What is left of the stations gives what all of them give.
use Rattle.std.proofs.Common.{◌≡◌, ◌+◌, ◌*◌, ◌≤◌, drop}
use Rattle.records.specs.Said.{says}
use Rattle.seals.specs.Tried.{quorum_seals, certificate_seals, first_false}
use Rattle.seals.proofs.certificates.try_certificate.Given as goal

abbrev pub invariant-loop-station : goal.invariant-loop-station
invariant-loop-station g l = record {
  left :
      first_false (g.B.SealBox.genuine l.seals) (quorum_seals (says l.support) l.certificate.proposal l.station l.place (drop l.station l.tags))
      ≡ first_false (g.B.SealBox.genuine l.seals) (certificate_seals (says l.support) l.at l.certificate);
  near : l.place ≤ l.at + 40 + 8 * l.station;
}
