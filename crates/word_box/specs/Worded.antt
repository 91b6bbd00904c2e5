-- The number that a word is.
use Rattle.std.specs.Prelude.{ℕ, ◌+◌, ◌*◌, List, [], ◌∷◌}
use Rattle.word_box.specs.declared.Word.{Word}

-- bytes after a number, highest first
abbrev pub then_bytes : ℕ → List ℕ → ℕ
then_bytes n [] = n
then_bytes n (b ∷ bs) = then_bytes (n * 256 + b) bs

-- the number that a word's bytes make, highest first
abbrev pub number_of : Word → ℕ
number_of word = then_bytes 0 word.0
