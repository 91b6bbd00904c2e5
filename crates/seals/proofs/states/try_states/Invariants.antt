-- What is left of the view states gives what all of them give.
use Rattle.std.proofs.Common.{◌≡◌, ◌+◌, ◌*◌, ◌≤◌, drop}
use Rattle.records.specs.Lists.{listed}
use Rattle.quorum.specs.Rings.{stations_of}
use Rattle.seals.specs.Tried.{states_seals, first_false}
use Rattle.seals.proofs.states.try_states.Given as goal

abbrev pub invariant-loop-state : goal.invariant-loop-state
invariant-loop-state g l = record {
  left :
      first_false (g.B.SealBox.genuine l.seals) (states_seals (stations_of l.ring) l.at (drop l.state-index l.state-items))
      ≡ first_false (g.B.SealBox.genuine l.seals) (states_seals (stations_of l.ring) 8 (listed l.view.states));
  near : l.at ≤ 8 + 881 * l.state-index;
}
