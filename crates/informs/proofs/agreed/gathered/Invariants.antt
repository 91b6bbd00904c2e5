-- The words so far and those of the informs to come, in a list of ten places.
use Rattle.std.proofs.Common.{◌≡◌, ◌≤◌, length}
use Rattle.records.specs.Lists.{listed}
use Rattle.informs.proofs.Rows.{ToCome}
use Rattle.informs.proofs.agreed.gathered.Given as goal

abbrev pub invariant-loop-inform : goal.invariant-loop-inform
invariant-loop-inform l = record {
  come : ToCome (goal.iterator-loop-inform).next_gives (listed l.words) l.heard l.inform-iterator;
  long : length l.words.items ≡ 10;
  few : l.words.len ≤ 10;
}
