-- Numbers as bytes: unsigned, highest byte first. And the sets of stations that a mask shows.
use Rattle.std.specs.Prelude.{ℕ, zero, suc, ◌+◌, ◌*◌, ◌/◌, ◌%◌, ◌^◌, Bool, cond, List, [], ◌∷◌, ◌++◌, is_some, Option, ◌==◌}
use Rattle.std.specs.Int.Digits.{number_from_digits}

-- a number in k bytes, highest first
unfoldable pub put : ℕ → ℕ → List ℕ
put zero n = []
put (suc k) n = put k (n / 256) ++ (n % 256 ∷ [])

-- the number that bytes write, highest first
abbrev pub number_of : List ℕ → ℕ
number_of bytes = number_from_digits 256 bytes

-- whether a mask shows station i
abbrev pub shows : ℕ → ℕ → Bool
shows mask i = mask / 2 ^ i % 2 == 1

-- the mask of the stations whose seal is there
abbrev pub mask_of : List (Option ℕ) → ℕ
mask_of [] = 0
mask_of (seal ∷ seals) = cond (is_some seal) 1 0 + 2 * mask_of seals
