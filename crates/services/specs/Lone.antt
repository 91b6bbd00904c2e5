-- The lone service: payloads are given to one service, one after the other.
-- S is the type of its states and P that of payloads; step and result are the service's own.
use Rattle.std.specs.Prelude.{◌≡◌, ℕ, ◌+◌, ◌<◌, List, [], ◌∷◌, ◌++◌, length, take, slice_index, slice_index_or}
use Rattle.std.specs.List.{fold}

-- the state after the payloads, from the state s
abbrev pub state_after : {S P : Type 0} → (S → P → S) → S → List P → S
state_after step s ps = fold step s ps

-- the results of the payloads, in their order, from the state s
abbrev pub results_of : {S P : Type 0} → (S → P → S) → (S → P → ℕ) → S → List P → List ℕ
results_of step result s [] = []
results_of step result s (p ∷ ps) = result s p ∷ results_of step result (step s p) ps

-- running xs and then ys is running xs ++ ys, and each payload has one result
pub record Appending (S P : Type 0) (step : S → P → S) (result : S → P → ℕ) : Type 0 where
  pub states : (s : S) (xs ys : List P) → state_after step s (xs ++ ys) ≡ state_after step (state_after step s xs) ys
  pub results :
      (s : S) (xs ys : List P)
      → results_of step result s (xs ++ ys) ≡ results_of step result s xs ++ results_of step result (state_after step s xs) ys
  -- one payload more
  pub state_more : (s : S) (xs : List P) (p : P) → state_after step s (xs ++ p ∷ []) ≡ step (state_after step s xs) p
  pub results_more :
      (s : S) (xs : List P) (p : P)
      → results_of step result s (xs ++ p ∷ []) ≡ results_of step result s xs ++ result (state_after step s xs) p ∷ []
  pub each : (s : S) (xs : List P) → length (results_of step result s xs) ≡ length xs

-- the result at place k, counted from 0, is fixed by the first k + 1 payloads
pub record Beginning (S P : Type 0) (step : S → P → S) (result : S → P → ℕ) : Type 0 where
  -- it is that of the payload there, in the state after those before it
  pub at_place :
      (s : S) (xs : List P) (k : ℕ) (p : P) → k < length xs
      → slice_index (results_of step result s xs) k ≡ result (state_after step s (take k xs)) (slice_index_or xs k p)
  -- the first k results are those of the first k payloads
  pub first : (s : S) (xs : List P) (k : ℕ) → take k (results_of step result s xs) ≡ results_of step result s (take k xs)
  -- lists that begin alike have the same results up to there
  pub alike :
      (s : S) (xs ys : List P) (k : ℕ) → take (k + 1) xs ≡ take (k + 1) ys
      → slice_index (results_of step result s xs) k ≡ slice_index (results_of step result s ys) k
