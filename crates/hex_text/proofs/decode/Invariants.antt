-- After some pairs the vector holds what they spell.
use Rattle.std.proofs.Common.{◌≡◌, Some, vec_items}
use Rattle.hex_text.specs.Digits.{spelled}
use Rattle.hex_text.proofs.decode.Given as goal

abbrev pub invariant-loop-high : goal.invariant-loop-high
invariant-loop-high l = spelled l.text l.high-index ≡ Some (vec_items l.bytes)
