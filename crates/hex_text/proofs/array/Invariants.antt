-- After some pairs the first bytes are what they spell, and the pairs behind them are left.
use Rattle.std.proofs.Common.{◌≡◌, Some, length, take, drop}
use Rattle.hex_text.specs.Digits.{spelled}
use Rattle.hex_text.proofs.array.Given as goal

abbrev pub invariant-loop-slot : goal.invariant-loop-slot
invariant-loop-slot g l =
    (spelled l.text l.slot-index ≡ Some (take l.slot-index l.slot-items))
    × ((length l.slot-items ≡ g.row.N) × (l.pairs.rest.now ≡ drop l.slot-index l.initial.pairs.rest.now))
