-- The seals of a certificate take eight bytes for each bit of its mask. Assumes nothing.
use Rattle.std.proofs.Common.{◌≡◌, ℕ, zero, suc, ◌+◌, ◌-◌, ◌*◌, ◌/◌, ◌%◌, ◌^◌, ◌≤◌, Bool, true, false, cond, List, Some, None, Ok, Option, Result, sym, refl, ap, ◌∙◌, div-one, one-add, arith}
use native.Mathlib.Nat.{zero-div}
use lib.Count.{ones, ones_step}
use Rattle.std.proofs.lemmas.Nat.{shr-shr}
use Rattle.std.proofs.lemmas.Bool.{eqb-true, eqb-false}
use Rattle.quorum.specs.declared.refusal.Fault.{Fault}
use Rattle.records.specs.Numbers.{shows}
use Rattle.records.specs.Reading.{◌then◌, number_at, several, slot_at}
use Rattle.codec.proofs.Steps.{ok_same, then_ok}

-- how many of the k lowest bits are set
abbrev bits : ℕ → ℕ → ℕ
bits mask zero = 0
bits mask (suc k) = bits mask k + mask / 2 ^ k % 2

-- a number without its lowest bit
shr_suc : (n i : ℕ) → n / 2 / 2 ^ i ≡ n / 2 ^ suc i
shr_suc n i = shr-shr n 1 i ∙ ap (λ k. n / 2 ^ k) (one-add i)

bits_step : (mask k : ℕ) → bits mask (suc k) ≡ mask % 2 + bits (mask / 2) k
bits_step mask zero = let e : mask / 1 % 2 ≡ mask % 2 = ap (λ n. n % 2) (div-one mask) in omega arith
bits_step mask (suc k) =
    let ih = bits_step mask k in
    let e : mask / 2 / 2 ^ k % 2 ≡ mask / 2 ^ suc k % 2 = ap (λ n. n % 2) (shr_suc mask k) in
    omega arith

ones_bits : (k mask : ℕ) → mask / 2 ^ k ≡ 0 → ones mask ≡ bits mask k
unfolding ones
ones_bits zero mask h = ap ones (sym (div-one mask) ∙ h)
ones_bits (suc k) mask h =
    let ih = ones_bits k (mask / 2) (shr_suc mask k ∙ h) in
    let s = ones_step mask in
    let b = bits_step mask k in
    omega arith

-- a slot once its bit is known
abbrev slot : List ℕ → ℕ → Bool → Result (Option ℕ × ℕ) Fault
slot bs at b = cond b (number_at 8 bs at then (λ seal. Ok (Some seal, at + 8))) (Ok (None, at))

slot_end : (bs : List ℕ) (mask i at : ℕ) (x : Option ℕ) (end : ℕ) → slot_at bs mask i at ≡ Ok (x, end) → end ≡ at + 8 * (mask / 2 ^ i % 2)
slot_end bs mask i at x end e = go (shows mask i) refl e
  where
    go : (b : Bool) → shows mask i ≡ b → slot bs at b ≡ Ok (x, end) → end ≡ at + 8 * (mask / 2 ^ i % 2)
    go true t h =
        let a = then_ok (number_at 8 bs at) _ h in
        let s : at + 8 ≡ end = ap (λ p. p.1) (ok_same a.2) in
        let one = eqb-true (mask / 2 ^ i % 2) 1 t in
        omega arith
    go false t h =
        let s : at ≡ end = ap (λ p. p.1) (ok_same h) in
        let other = eqb-false (mask / 2 ^ i % 2) 1 t in
        omega arith

slots_end : (bs : List ℕ) (mask k at : ℕ) (xs : List (Option ℕ)) (end : ℕ) → several (slot_at bs mask) at k ≡ Ok (xs, end) → end ≡ at + 8 * bits mask k
slots_end bs mask zero at xs end e = let s : at ≡ end = ap (λ p. p.1) (ok_same e) in omega arith
slots_end bs mask (suc k) at xs end e =
    let a = then_ok (several (slot_at bs mask) at k) _ e in
    let b = then_ok (slot_at bs mask k a.0.1) _ a.2 in
    let ih = slots_end bs mask k at a.0.0 a.0.1 a.1 in
    let s = slot_end bs mask k a.0.1 b.0.0 b.0.1 b.1 in
    let t : b.0.1 ≡ end = ap (λ p. p.1) (ok_same b.2) in
    omega arith

pub seals_end : (bs : List ℕ) (mask at : ℕ) (xs : List (Option ℕ)) (end : ℕ) → mask / 2 ^ 10 ≡ 0 → several (slot_at bs mask) at 10 ≡ Ok (xs, end) → end ≡ at + 8 * ones mask
seals_end bs mask at xs end h e = slots_end bs mask 10 at xs end e ∙ ap (λ k. at + 8 * k) (sym (ones_bits 10 mask h))

-- a mask with no bit at n or above has none at 10 or above
pub mask_ten : (n mask : ℕ) → n ≤ 10 → mask / 2 ^ n ≡ 0 → mask / 2 ^ 10 ≡ 0
mask_ten n mask l h =
    let more : n + (10 - n) ≡ 10 = omega arith in
    ap (λ k. mask / 2 ^ k) (sym more) ∙ sym (shr-shr mask n (10 - n)) ∙ ap (λ m. m / 2 ^ (10 - n)) h ∙ zero-div (2 ^ (10 - n))
