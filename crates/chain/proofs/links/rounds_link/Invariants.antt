-- What is left of the certificates gives what all of them give.
use Rattle.std.proofs.Common.{◌≡◌, ◌+◌, ◌*◌, drop}
use Rattle.records.specs.Lists.{listed}
use Rattle.quorum.specs.Rings.{stations_of}
use Rattle.records.specs.Places.{prepared_place}
use Rattle.records.specs.Chain.{rounds_link, next_round}
use Rattle.chain.proofs.links.rounds_link.Given as goal

abbrev pub invariant-loop-i : goal.invariant-loop-i
invariant-loop-i l =
    rounds_link (stations_of l.fn.placed.ring) l.fn.placed.state.now.view (l.first + l.i * l.size) (l.round + l.i) (drop l.i l.certificates)
    ≡ rounds_link (stations_of l.fn.placed.ring) l.fn.placed.state.now.view (prepared_place (stations_of l.fn.placed.ring) l.fn.placed.at l.fn.placed.state.now) (next_round l.fn.placed.state.now.commit) (listed l.fn.placed.state.now.prepared)
