-- A claim in range is short.
use Rattle.std.proofs.Common.{◌≤◌, length, sym, subst}
use Rattle.quorum.specs.Limits.{longest_statement}
use Rattle.records.specs.Statements.{said_bytes}
use Rattle.seals.proofs.Short.{claim_short}
use Rattle.seals.proofs.certificates.try_certificate.Goals as goal

pub try_seal-requires : goal.try_seal-requires
try_seal-requires g c = subst (λ s. length (said_bytes s) ≤ longest_statement) (sym c.said-said.ensures) (claim_short c.args.support c.loop-station.station _ c.requires.right)
