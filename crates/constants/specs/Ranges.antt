-- The range of an entry's offset: ±20,000 tenths of a millimetre.
use Rattle.std.specs.Prelude.{◌≤◌, Bool, ℤ, nat_le, unsigned_abs}

abbrev pub InRange : ℤ → Type 0
InRange offset = unsigned_abs offset ≤ 20000

-- the same, as a test
abbrev pub in_range : ℤ → Bool
in_range offset = nat_le (unsigned_abs offset) 20000
