-- The laws of the lone service, each by one induction along the list.
use Rattle.std.proofs.Common.{◌≡◌, ℕ, zero, suc, ◌+◌, ◌<◌, List, [], ◌∷◌, ◌++◌, length, get_or, take, sym, refl, ap, ◌∙◌, le_of_suc-le-suc, not-suc-le-zero}
use Rattle.services.specs.Lone.{state_after, results_of, Appending, Beginning}
use Rattle.std.proofs.lemmas.List.{get_or-take}
use Rattle.std.proofs.lemmas.List.Sums.{fold-append}
use native.Mathlib.Numerals.{lt-add-one}

module _ {S P : Type 0} (step : S → P → S) (result : S → P → ℕ) where
  results_append :
      (s : S) (xs ys : List P)
      → results_of step result s (xs ++ ys) ≡ results_of step result s xs ++ results_of step result (state_after step s xs) ys
  results_append s [] ys = refl
  results_append s (x ∷ xs) ys = ap (λ rs. result s x ∷ rs) (results_append (step s x) xs ys)

  length_results : (s : S) (xs : List P) → length (results_of step result s xs) ≡ length xs
  length_results s [] = refl
  length_results s (x ∷ xs) = ap suc (length_results (step s x) xs)

  result_at :
      (s : S) (xs : List P) (k : ℕ) (p : P) → k < length xs
      → get_or (results_of step result s xs) k 0 ≡ result (state_after step s (take k xs)) (get_or xs k p)
  result_at s [] k p h = absurd (not-suc-le-zero h)
  result_at s (x ∷ xs) zero p h = refl
  result_at s (x ∷ xs) (suc k) p h = result_at (step s x) xs k p (le_of_suc-le-suc h)

  take_results : (s : S) (xs : List P) (k : ℕ) → take k (results_of step result s xs) ≡ results_of step result s (take k xs)
  take_results s xs zero = refl
  take_results s [] (suc k) = refl
  take_results s (x ∷ xs) (suc k) = ap (λ rs. result s x ∷ rs) (take_results (step s x) xs k)

  -- the result at a place, from the payloads up to it
  from_beginning :
      (s : S) (xs : List P) (k : ℕ)
      → get_or (results_of step result s xs) k 0 ≡ get_or (results_of step result s (take (k + 1) xs)) k 0
  from_beginning s xs k =
      sym (get_or-take (k + 1) (results_of step result s xs) k 0 (lt-add-one k))
      ∙ ap (λ rs. get_or rs k 0) (take_results s xs (k + 1))

  pub appending : Appending S P step result
  appending =
      record {
        states = fold-append step;
        results = results_append;
        state_more = λ s xs p. fold-append step s xs (p ∷ []);
        results_more = λ s xs p. results_append s xs (p ∷ []);
        each = length_results;
      }

  pub beginning : Beginning S P step result
  beginning = record {
    at_place = result_at;
    first = take_results;
    alike = λ s xs ys k e.
        from_beginning s xs k ∙ ap (λ zs. get_or (results_of step result s zs) k 0) e ∙ sym (from_beginning s ys k);
  }
