-- What one word adds to those who share a word, and what a search among the words finds. Assumes nothing.
use Rattle.std.proofs.Common.{◌≡◌, ℕ, suc, ◌-◌, ◌≤◌, Bool, true, false, cond, eqb, ◌&&◌, ◌||◌, List, [], ◌∷◌, length, get_or, take, drop, Some, leb, refl, sym, ap, ◌∙◌, inl, inr, arith}
use Rattle.std.proofs.lemmas.Bool.Decides.{nat_tests}
use Rattle.std.proofs.lemmas.Bool.{leb-true}
use Rattle.std.proofs.lemmas.List.{take_all}
use Rattle.std.specs.List.{list_any, find}
use Rattle.tally.specs.Tallies.{has, different, sharers, shared, Among, Carried}

module _ {W : Type 0} (signer : W → ℕ) (same : W → W → Bool) (w : W) where
  abbrev says : ℕ → List W → Bool
  says s words = list_any (λ x. same x w && eqb (signer x) s) words

  -- who says the same is among those who share the word
  has-sharers : (s : ℕ) (words : List W) → has s (sharers signer same w words) ≡ says s words
  has-sharers s [] = refl
  has-sharers s (x ∷ xs) = go (same x w) (has-sharers s xs)
    where
      go : (b : Bool) → has s (sharers signer same w xs) ≡ says s xs → has s (cond b (signer x ∷ sharers signer same w xs) (sharers signer same w xs)) ≡ ((b && eqb (signer x) s) || says s xs)
      go true e = grind (arith, nat_tests)
      go false e = e

  -- a word that is the first of some, with the slice of those behind it
  module _ (words : List W) (x : W) (some : 1 ≤ length words) (first : x ≡ get_or words 0 x) where
    abbrev pub later : List W
    later = take (length words - 1) (drop 1 words)

    is_first : (ys : List W) → 1 ≤ length ys → x ≡ get_or ys 0 x → x ∷ take (length ys - 1) (drop 1 ys) ≡ ys
    is_first [] l e = absurd (omega arith)
    is_first (y ∷ ys) l e = ap (λ z. z ∷ take (length (y ∷ ys) - 1) ys) e ∙ ap (λ l. y ∷ l) (take_all (length (y ∷ ys) - 1) ys (omega arith))

    pub passed : same x w ≡ false → shared signer same later w ≡ shared signer same words w
    passed e = ap (λ b. different (cond b (signer x ∷ sharers signer same w later) (sharers signer same w later))) (sym e) ∙ ap (λ l. shared signer same l w) (is_first words some first)

    counted : (b : Bool) (s : ℕ) → s ≡ signer x → says s later ≡ b → same x w ≡ true → cond b (shared signer same later w) (suc (shared signer same later w)) ≡ shared signer same words w
    counted b s n t e =
        ap (λ b. cond b (shared signer same later w) (suc (shared signer same later w))) (sym (ap (λ s. has s (sharers signer same w later)) (sym n) ∙ has-sharers s later ∙ t))
        ∙ ap (λ b. different (cond b (signer x ∷ sharers signer same w later) (sharers signer same w later))) (sym e)
        ∙ ap (λ l. shared signer same l w) (is_first words some first)

    pub repeated : (s : ℕ) → s ≡ signer x → says s later ≡ true → same x w ≡ true → shared signer same later w ≡ shared signer same words w
    repeated = counted true

    pub one_more : (s : ℕ) → s ≡ signer x → says s later ≡ false → same x w ≡ true → suc (shared signer same later w) ≡ shared signer same words w
    one_more = counted false

-- a word that is found for its many signers is among the words
pub carried : {W : Type 0} (signer : W → ℕ) (same : W → W → Bool) (m : ℕ) (all words : List W) (w : W) (s : ℕ) → s ≡ signer w → Some w ≡ find (λ w. leb m (shared signer same all w)) words → Among (Carried signer same all m s) words
carried signer same m all [] w s n e = absurd cc
carried signer same m all (x ∷ xs) w s n e = go (leb m (shared signer same all x)) refl e (carried signer same m all xs w s n)
  where
    go : (b : Bool) → leb m (shared signer same all x) ≡ b → Some w ≡ cond b (Some x) (find (λ w. leb m (shared signer same all w)) xs) → (Some w ≡ find (λ w. leb m (shared signer same all w)) xs → Among (Carried signer same all m s) xs) → Among (Carried signer same all m s) (x ∷ xs)
    go true t e f = inl (ap signer (cc) ∙ sym n, leb-true m (shared signer same all x) t)
    go false t e f = inr (f e)
