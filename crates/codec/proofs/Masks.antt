-- The mask of seals: it shows the stations whose seal is there, and no other mask does. Assumes nothing.
use Rattle.std.proofs.Common.{◌≡◌, ℕ, zero, suc, ◌+◌, ◌-◌, ◌*◌, ◌/◌, ◌%◌, ◌^◌, ◌<◌, ◌≤◌, Bool, true, false, cond, eqb, List, [], ◌∷◌, length, map, get_or, is_some, Some, None, Option, sym, refl, ap, ◌∙◌, ⊎_elim, arith}
use Rattle.std.specs.Prelude.{count_ones}
use Rattle.std.specs.Int.{bit_at}
use Rattle.std.specs.Simd.Lanes.{mask_l}
use native.Mathlib.Nat.{zero-div}
use Rattle.std.proofs.Math.ListN.{get_or-map}
use Rattle.std.proofs.lemmas.Bool.{cases_lt}
use Rattle.std.proofs.lemmas.List.{get_or_past}
use Rattle.std.proofs.lemmas.List.Recursion.{is_sum_by}
use Rattle.std.proofs.lemmas.Nat.{shr-shr}
use Rattle.std.proofs.lemmas.Nat.Bits.{bit_at-zero, bit_at-lt, same_from_bits}
use Rattle.std.proofs.lemmas.Simd.{bit_mask_l, ones-mask_l}
use Rattle.records.specs.Numbers.{shows, mask_of}
use Rattle.records.specs.Range.{seals_there}

-- the mask of the library
as_lanes : (seals : List (Option ℕ)) → mask_of seals ≡ mask_l (map is_some seals)
as_lanes [] = refl
as_lanes (s ∷ ss) = ap (λ m. cond (is_some s) 1 0 + 2 * m) (as_lanes ss)

-- the bit of one seal
abbrev bit : Option ℕ → ℕ
bit s = cond (is_some s) 1 0

mask_bit : (seals : List (Option ℕ)) (i : ℕ) → bit_at (mask_of seals) i ≡ bit (get_or seals i None)
mask_bit seals i =
    ap (λ m. bit_at m i) (as_lanes seals) ∙ bit_mask_l (map is_some seals) i
    ∙ ap (λ b. cond b 1 0) (get_or-map is_some seals i None)

-- a bit and its test
one_is : (b : Bool) → eqb (cond b 1 0) 1 ≡ b
one_is true = refl
one_is false = refl

pub shows_mask : (seals : List (Option ℕ)) (i : ℕ) → shows (mask_of seals) i ≡ is_some (get_or seals i None)
shows_mask seals i = ap (λ m. eqb m 1) (mask_bit seals i) ∙ one_is (is_some (get_or seals i None))

pub ones_mask : (seals : List (Option ℕ)) → count_ones (mask_of seals) ≡ seals_there seals
ones_mask seals =
    ap count_ones (as_lanes seals) ∙ ones-mask_l is_some seals
    ∙ sym (is_sum_by seals_there bit refl (λ s ss. refl) seals)

-- a number with no bit at n or above has none at i
pub none_above : (m n i : ℕ) → n ≤ i → m / 2 ^ n ≡ 0 → m / 2 ^ i ≡ 0
none_above m n i l h =
    let more : n + (i - n) ≡ i = omega arith in
    ap (λ k. m / 2 ^ k) (sym more) ∙ sym (shr-shr m n (i - n)) ∙ ap (λ k. k / 2 ^ (i - n)) h ∙ zero-div (2 ^ (i - n))

-- no seal from n on
pub mask_below : (seals : List (Option ℕ)) (n : ℕ) → ((i : ℕ) → n ≤ i → get_or seals i None ≡ None) → mask_of seals / 2 ^ n ≡ 0
mask_below seals n h =
    same_from_bits (mask_of seals / 2 ^ n) 0 (λ i.
    ap (λ m. m % 2) (shr-shr (mask_of seals) n i) ∙ mask_bit seals (n + i)
    ∙ ap bit (h (n + i) (omega arith)) ∙ sym (bit_at-zero i))

none_is : (o : Option ℕ) → bit o ≡ 0 → o ≡ None
none_is None e = refl
none_is (Some s) e = absurd (omega arith)

pub none_from : (seals : List (Option ℕ)) (n : ℕ) → mask_of seals / 2 ^ n ≡ 0 → (i : ℕ) → n ≤ i → get_or seals i None ≡ None
none_from seals n h i l =
    none_is (get_or seals i None) (sym (mask_bit seals i) ∙ ap (λ m. m % 2) (none_above (mask_of seals) n i l h))

one_shown : (m : ℕ) → m < 2 → cond (eqb m 1) 1 0 ≡ m
one_shown zero l = refl
one_shown (suc zero) l = refl
one_shown (suc (suc m)) l = absurd (omega arith)

-- the mask that shows these seals is theirs
pub mask_is : (seals : List (Option ℕ)) (mask : ℕ) → mask / 2 ^ length seals ≡ 0 → ((i : ℕ) → i < length seals → is_some (get_or seals i None) ≡ shows mask i) → mask_of seals ≡ mask
mask_is seals mask h e =
    same_from_bits (mask_of seals) mask (λ i. mask_bit seals i ∙ ⊎_elim (inside i) (past i) (cases_lt i (length seals)))
  where
    inside : (i : ℕ) → i < length seals → bit (get_or seals i None) ≡ bit_at mask i
    inside i l = ap (λ b. cond b 1 0) (e i l) ∙ one_shown (bit_at mask i) (bit_at-lt mask i)

    past : (i : ℕ) → length seals ≤ i → bit (get_or seals i None) ≡ bit_at mask i
    past i l =
        ap bit (get_or_past seals i None l)
        ∙ sym (ap (λ m. m % 2) (none_above mask (length seals) i l h))
