-- A loop that reads several values, one after another, into the places of an array: what holds after i of them, and one turn.
-- Assumes nothing.
use Rattle.std.proofs.Common.{◌≡◌, ℕ, zero, suc, ◌+◌, ◌-◌, ◌<◌, ltb, List, [], ◌∷◌, ◌++◌, length, set, replicate, Ok, Err, Result, sym, refl, ap, ◌∙◌, subst, ap₂, add-zero, add-suc, add-one, arith}
use native.Mathlib.Nat.{sub-zero}
use Rattle.std.proofs.lemmas.List.{append-nil, append_assoc, length_push, set_at}
use Rattle.quorum.specs.declared.refusal.Fault.{Fault}
use Rattle.std.proofs.lemmas.Bool.{cond-true, lt-ltb}
use Rattle.records.specs.Lists.{filled, pushed}
use Rattle.records.specs.Reading.{several, ◌then◌}
use Rattle.records.specs.declared.few.Few.{Few}

-- after i values: what was read, the array that holds it with blanks after it, and the place reached
pub record Gathered {A : Type 0} (read : ℕ → ℕ → Result (A × ℕ) Fault) (blank : A) (n at i : ℕ) (items : List A) (place : ℕ) : Type 0 where
  pub values : List A
  pub got : several read at i ≡ Ok (values, place)
  pub are : items ≡ values ++ replicate (n - i) blank
  pub many : length values ≡ i

-- one place less to fill
rest_step : {A : Type 0} (blank : A) (n i : ℕ) → i < n → replicate (n - i) blank ≡ blank ∷ replicate (n - (i + 1)) blank
rest_step blank n i h = ap (λ k. replicate k blank) (let e : n - i ≡ suc (n - (i + 1)) = omega arith in e)

-- one value more
pub several_more : {A : Type 0} (read : ℕ → ℕ → Result (A × ℕ) Fault) (at i : ℕ) (xs : List A) (place : ℕ) (x : A) (next : ℕ) → several read at i ≡ Ok (xs, place) → read i place ≡ Ok (x, next) → several read at (i + 1) ≡ Ok (xs ++ x ∷ [], next)
several_more read at i xs place x next e r = rw (add-one, e, r)

stops : {A : Type 0} (read : ℕ → ℕ → Result (A × ℕ) Fault) (at : ℕ) (e : Fault) (k j : ℕ) → several read at k ≡ Err e → several read at (k + j) ≡ Err e
stops read at e k zero p = rw (add-zero) p
stops read at e k (suc j) p = let q = stops read at e k j p in rw (add-suc, q)

-- a fault at one value is the fault of all
pub several_fault : {A : Type 0} (read : ℕ → ℕ → Result (A × ℕ) Fault) (at i k : ℕ) (xs : List A) (place : ℕ) (e : Fault) → several read at i ≡ Ok (xs, place) → i < k → read i place ≡ Err e → several read at k ≡ Err e
several_fault read at i k xs place e got h r =
    let here : several read at (suc i) ≡ Err e = rw (got, r) in
    let more : suc i + (k - suc i) ≡ k = omega arith in
    subst (λ m. several read at m ≡ Err e) more (stops read at e (suc i) (k - suc i) here)

pub gathered_none : {A : Type 0} (read : ℕ → ℕ → Result (A × ℕ) Fault) (blank : A) (n at : ℕ) → Gathered read blank n at 0 (replicate n blank) at
gathered_none read blank n at = record { values = []; got = refl; are = ap (λ k. replicate k blank) (sym (sub-zero n)); many = refl }

module _ {A : Type 0} {read : ℕ → ℕ → Result (A × ℕ) Fault} {blank : A} {n at i : ℕ} {items : List A} {place : ℕ} (g : Gathered read blank n at i items place) where
  pub gathered_more : {x : A} {next : ℕ} → i < n → read i place ≡ Ok (x, next) → Gathered read blank n at (i + 1) (set items i x) next
  gathered_more {x} {next} h r = record {
    values = g.values ++ x ∷ [];
    got = several_more read at i g.values place x next g.got r;
    are =
        ap (λ l. set l i x) (g.are ∙ ap (λ l. g.values ++ l) (rest_step blank n i h))
        ∙ set_at g.values blank (replicate (n - (i + 1)) blank) x i g.many
        ∙ sym (append_assoc g.values (x ∷ []) (replicate (n - (i + 1)) blank));
    many = length_push g.values x ∙ ap (λ k. k + 1) g.many;
  }

  pub gathered_fault : (k : ℕ) {e : Fault} → i < k → read i place ≡ Err e → several read at k ≡ Err e
  gathered_fault k h r = several_fault read at i k g.values place _ g.got h r

  -- every place filled
  pub gathered_all : i ≡ n → several read at n ≡ Ok (items, place)
  gathered_all e =
      let none : n - i ≡ 0 = omega arith in
      let whole : items ≡ g.values = g.are ∙ ap (λ k. g.values ++ replicate k blank) none ∙ append-nil g.values in
      subst (λ k. several read at k ≡ Ok (items, place)) e (g.got ∙ ap (λ l. Ok (l, place)) (sym whole))

  -- a short list that was pushed to i times holds the values that were read
  pub gathered_few : (k : ℕ) (few : Few A n) → few.items ≡ items → few.len ≡ i → i ≡ k → (◌then◌ {B = Few A n × ℕ} (several read at k) (λ cs. Ok (filled blank n cs.0, cs.1))) ≡ Ok (few, place)
  gathered_few k few same long e =
      let many : length g.values ≡ few.len = g.many ∙ sym long in
      let items-are : few.items ≡ g.values ++ replicate (n - length g.values) blank = same ∙ g.are ∙ ap (λ m. g.values ++ replicate (n - m) blank) (sym g.many) in
      let got : several read at k ≡ Ok (g.values, place) = subst (λ m. several read at m ≡ Ok (g.values, place)) e g.got in
      let ok : List A → ℕ → Result (Few A n × ℕ) Fault = λ xs m. Ok (record { items = xs; len = m }, place) in
      rw got (ap₂ ok (sym items-are) many)

-- one value more in a short list
pub gathered_push : {A : Type 0} {read : ℕ → ℕ → Result (A × ℕ) Fault} {blank : A} {n at i : ℕ} {few few' : Few A n} {place : ℕ} {x : A} {next : ℕ} → Gathered read blank n at i few.items place → few.len ≡ i → i < n → read i place ≡ Ok (x, next) → few' ≡ pushed n few x → Gathered read blank n at (i + 1) few'.items next × (few'.len ≡ i + 1)
gathered_push {A} {read} {blank} {n} {at} {i} {few} {few'} {place} {x} {next} g long h r e =
    let here : few.len < n = omega arith in
    let e' : few' ≡ record { items = set few.items few.len x; len = few.len + 1 } = e ∙ cond-true (ltb few.len n) (record { items = set few.items few.len x; len = few.len + 1 }) few (lt-ltb few.len n here) in
    let items-are : few'.items ≡ set few.items i x = ap (λ (f : Few A n). f.items) e' ∙ ap (λ k. set few.items k x) long in (
      subst (λ l. Gathered read blank n at (i + 1) l next) (sym items-are) (gathered_more g h r),
      ap (λ (f : Few A n). f.len) e' ∙ ap (λ k. k + 1) long,
    )
