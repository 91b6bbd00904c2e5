-- The stocks stay within their bounds.
use Rattle.std.proofs.Common.{◌≡◌, ℕ, ◌<◌, ◌≤◌, List, length, get_or, set, replicate, Ok, sym, subst, ⊎_elim, arith}
use Rattle.spares_store.specs.Outcomes.{after_moving}
use Rattle.spares_store.specs.Stocks.{Bounded}
use Rattle.spares_store.specs.declared.movement.Direction.{Direction}
use Rattle.spares_store.specs.declared.movement.Direction.TheVariants.{In, Out}
use Rattle.std.proofs.lemmas.List.{get_or-set_same, get_or-set_other, get_or_past, set_past, get_or-replicate, length-replicate}
use Rattle.std.proofs.lemmas.Bool.{cases_eq, cases_lt}
use Rattle.std.proofs.lemmas.Bool.Decides.{nat_tests}

pub bounded_set : (stocks : List ℕ) (i n : ℕ) → Bounded stocks → n ≤ 60000 → Bounded (set stocks i n)
bounded_set stocks i n b h k =
    ⊎_elim
    (λ (e : k ≡ i). ⊎_elim
    (λ (l : i < length stocks). let s = get_or-set_same stocks i n 0 l in subst (λ (j : ℕ). get_or (set stocks i n) j 0 ≤ 60000) (sym e) (omega (arith, s)))
    (λ (l : length stocks ≤ i). let s = set_past stocks i n l in subst (λ (xs : List ℕ). get_or xs k 0 ≤ 60000) (sym s) (b k))
    (cases_lt i (length stocks)))
    (λ (d : k ≡ i → ⊥). let s = get_or-set_other stocks i k n 0 d in omega (arith, s, b k))
    (cases_eq k i)

pub bounded_empty : (n : ℕ) → Bounded (replicate n 0)
bounded_empty n k =
    ⊎_elim
    (λ (l : k < n). omega (arith, get_or-replicate {A = ℕ} n k 0 0 l))
    (λ (l : n ≤ k). let m : length (replicate {A = ℕ} n 0) ≤ k = omega (arith, length-replicate {A = ℕ} n 0) in omega (arith, get_or_past {X = ℕ} (replicate n 0) k 0 m))
    (cases_lt k n)

-- moving within the bounds gives a stock within them
pub bounded_moving : (d : Direction) (stock quantity n : ℕ) → stock ≤ 60000 → after_moving d stock quantity ≡ Ok n → n ≤ 60000
bounded_moving In stock quantity n h e = grind (arith, nat_tests)
bounded_moving Out stock quantity n h e = grind (arith, nat_tests)
