-- What is left of the certificates gives what all of them give.
use Rattle.std.proofs.Common.{◌≡◌, ◌+◌, ◌*◌, drop}
use Rattle.records.specs.Lists.{listed}
use Rattle.quorum.specs.Rings.{stations_of}
use Rattle.records.specs.Places.{prepared_place}
use Rattle.seals.specs.Tried.{prepared_seals, first_false}
use Rattle.seals.proofs.states.try_prepared.Given as goal

abbrev pub invariant-loop-i : goal.invariant-loop-i
invariant-loop-i g l =
    first_false (g.B.SealBox.genuine l.seals) (prepared_seals (stations_of l.fn.placed.ring) (l.first + l.i * l.size) (drop l.i l.certificates))
    ≡ first_false (g.B.SealBox.genuine l.seals) (prepared_seals (stations_of l.fn.placed.ring) (prepared_place (stations_of l.fn.placed.ring) l.fn.placed.at l.fn.placed.state.now) (listed l.fn.placed.state.now.prepared))
