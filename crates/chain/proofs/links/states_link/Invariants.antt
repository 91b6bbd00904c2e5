-- What is left of the view states gives what all of them give.
use Rattle.std.proofs.Common.{◌≡◌, ◌+◌, ◌*◌, ◌≤◌, drop}
use Rattle.records.specs.Lists.{listed}
use Rattle.quorum.specs.Rings.{stations_of}
use Rattle.records.specs.Chain.{states_link}
use Rattle.chain.proofs.links.states_link.Given as goal

abbrev pub invariant-loop-state : goal.invariant-loop-state
invariant-loop-state l = record {
  left : states_link (stations_of l.ring) l.view.view l.at l.low (drop l.state-index l.state-items)
      ≡ states_link (stations_of l.ring) l.view.view 8 0 (listed l.view.states);
  near : l.at ≤ 8 + 881 * l.state-index;
}
