-- What the own seal of a record covers is short.
use Rattle.std.proofs.Common.{◌≤◌, length, sym, subst}
use Rattle.quorum.specs.Limits.{longest_statement}
use Rattle.quorum.specs.Rings.{stations_of}
use Rattle.records.specs.Statements.{said_bytes}
use Rattle.seals.proofs.Short.{arrival_short}
use Rattle.seals.proofs.admitting.try_all.Goals as goal

pub try_seal-requires : goal.try_seal-requires
try_seal-requires g c =
    subst (λ s. length (said_bytes s) ≤ longest_statement) (sym c.said.ensures)
    (arrival_short (stations_of c.args.ring) c.args.ring.some c.args.ring.few c.args.arrival.now c.requires.right)
