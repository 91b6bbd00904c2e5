-- Bytes that stand at a place of other bytes.
use Rattle.std.specs.Prelude.{◌≡◌, ℕ, ◌+◌, ◌≤◌, List, length, take, drop}

pub record Stands (bs : List ℕ) (at : ℕ) (xs : List ℕ) : Type 0 where
  pub inside : at + length xs ≤ length bs
  pub there : take (length xs) (drop at bs) ≡ xs
