-- How one written line changes the number of entries.
use Rattle.std.proofs.Common.{◌≡◌, ℕ, zero, suc, ◌+◌, ◌<◌, ◌≤◌, cond, ℤ, is_some, Option, refl, ap, ⊎_elim, not-suc-le-zero, arith}
use Rattle.constants.specs.Books.{Book, written, held_below, empty_book}
use Rattle.std.proofs.lemmas.Bool.{cases_eq}
use Rattle.std.proofs.lemmas.Bool.Decides.{nat_tests}

-- 1 for an entry, 0 for none
abbrev pub one_if : Option ℤ → ℕ
one_if o = cond (is_some o) 1 0

pub held_empty : (n : ℕ) → held_below empty_book n ≡ 0
unfolding held_below
held_empty zero = refl
held_empty (suc n) = held_empty n

-- what is written at s is not counted below s
pub held_past : (f : Book) (s n : ℕ) (line : Option ℤ) → n ≤ s → held_below (written f s line) n ≡ held_below f n
unfolding held_below
held_past f s zero line h = refl
held_past f s (suc n) line h = let ih = held_past f s n line (omega arith) in grind (arith, nat_tests)

pub held_written :
    (f : Book) (s n : ℕ) (line : Option ℤ) → s < n
    → held_below (written f s line) n + one_if (f s) ≡ held_below f n + one_if line
unfolding held_below
held_written f s zero line h = absurd (not-suc-le-zero h)
held_written f s (suc n) line h =
    ⊎_elim
    (λ (e : n ≡ s). let below = held_past f s n line (omega arith) in let at : f n ≡ f s = ap f e in grind (arith, nat_tests))
    (λ (d : n ≡ s → ⊥). let ih = held_written f s n line (omega arith) in grind (arith, nat_tests))
    (cases_eq n s)
