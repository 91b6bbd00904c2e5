-- What a signer's number and key are in a text.
use Rattle.std.specs.Prelude.{◌≡◌, ℕ, Bool, ◌<◌, List, length, Some, ◌==◌, Ok}
use Rattle.std.specs.List.{position_or_len, before_first, after_first}
use Rattle.std.specs.Str.Parse.{ParsesUnsigned}
use Rattle.hex_text.specs.Digits.{decoded, exactly}

abbrev pub is_space : ℕ → Bool
is_space c = c == 32

-- the text is a number, a space and the digits of 16 bytes
pub record IsKeyLine (text : List ℕ) (number : ℕ) (key : List ℕ) : Type 0 where
  pub parted : position_or_len is_space text < length text
  pub numbered : ParsesUnsigned {E = ℕ} 16 10 (before_first is_space text) (Ok number)
  pub keyed : exactly 16 (decoded (after_first is_space text)) ≡ Some key

-- the text is not that, whatever the number and the key
abbrev pub IsNoKeyLine : List ℕ → Type 0
IsNoKeyLine text = (number : ℕ) (key : List ℕ) → IsKeyLine text number key → ⊥
