-- Two quorums share a good station, by counting.
use Rattle.std.proofs.Common.{◌≡◌, ℕ, zero, suc, ◌+◌, ◌<◌, ◌≤◌, Bool, true, false, ◌⊎◌, refl, inl, inr, ⊎_elim, arith}
use Rattle.quorum.specs.Sets.{count, QuorumsShare}

-- a station below n that is in both sets and not bad
abbrev pub Shared : (ℕ → Bool) → (ℕ → Bool) → (ℕ → Bool) → ℕ → Type 0
Shared bad one other n = (i : ℕ) × (i < n) × (bad i ≡ false) × (one i ≡ true) × (other i ≡ true)

-- either there is one, or the two sets are too small together
pub shared_or_few :
    (bad one other : ℕ → Bool) (n : ℕ) →
    Shared bad one other n ⊎ (count one n + count other n ≤ n + count bad n)
shared_or_few bad one other zero = inr (omega arith)
shared_or_few bad one other (suc n) =
    ⊎_elim
    (λ (h : Shared bad one other n). inl (h.0, omega arith, h.2, h.3, h.4))
    (λ (few : count one n + count other n ≤ n + count bad n). here few (bad n) refl (one n) refl (other n) refl)
    (shared_or_few bad one other n)
  where
    here :
        count one n + count other n ≤ n + count bad n →
        (b : Bool) → bad n ≡ b → (o : Bool) → one n ≡ o → (t : Bool) → other n ≡ t →
        Shared bad one other (suc n) ⊎ (count one (suc n) + count other (suc n) ≤ suc n + count bad (suc n))
    here few false eb true eo true et = inl (n, omega arith, eb, eo, et)
    here few true eb true eo true et = inr (rw (eb, eo, et) (omega arith))
    here few true eb true eo false et = inr (rw (eb, eo, et) (omega arith))
    here few true eb false eo true et = inr (rw (eb, eo, et) (omega arith))
    here few true eb false eo false et = inr (rw (eb, eo, et) (omega arith))
    here few false eb true eo false et = inr (rw (eb, eo, et) (omega arith))
    here few false eb false eo true et = inr (rw (eb, eo, et) (omega arith))
    here few false eb false eo false et = inr (rw (eb, eo, et) (omega arith))

pub quorums_share : QuorumsShare
quorums_share n bad one other stands q r =
    ⊎_elim
    (λ (h : Shared bad one other n). h)
    (λ (few : count one n + count other n ≤ n + count bad n). absurd (omega arith))
    (shared_or_few bad one other n)

-- a larger set has no fewer stations
pub count_grows :
    (one other : ℕ → Bool) (n : ℕ) → ((i : ℕ) → i < n → one i ≡ true → other i ≡ true) → count one n ≤ count other n
count_grows one other zero h = omega arith
count_grows one other (suc n) h =
    let below : count one n ≤ count other n = count_grows one other n (λ i l e. h i (omega arith) e) in
    here below (one n) refl (other n) refl
  where
    here :
        count one n ≤ count other n →
        (o : Bool) → one n ≡ o → (t : Bool) → other n ≡ t → count one (suc n) ≤ count other (suc n)
    here below true eo true et = rw (eo, et) (omega arith)
    here below true eo false et = absurd (clash (h n (omega arith) eo) et)
      where
        clash : other n ≡ true → other n ≡ false → ⊥
        clash p q = grind arith
    here below false eo true et = rw (eo, et) (omega arith)
    here below false eo false et = rw (eo, et) (omega arith)
