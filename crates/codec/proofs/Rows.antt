-- Values that stand one after another: what each reading keeps, reading several of them keeps. Assumes nothing.
use Rattle.std.proofs.Common.{◌≡◌, ℕ, zero, suc, ◌+◌, ◌<◌, ◌≤◌, List, [], ◌∷◌, ◌++◌, length, get_or, take, Ok, Result, sym, refl, ap, ◌∙◌, subst, ⊎_elim, add-zero, arith, length-append}
use Rattle.std.specs.List.{flat_map, AllByRecursion}
use Rattle.std.proofs.lemmas.List.{length_push, get_or_push, get_or_append_left, get_or-take, flat_map_more, nil_from_length, length-take-le}
use Rattle.std.proofs.ByRecursion.{All-get_or, All-from_get_or}
use Rattle.std.proofs.lemmas.Bool.{cases_lt}
use Rattle.quorum.specs.declared.refusal.Fault.{Fault}
use Rattle.records.specs.Reading.{several}
use Rattle.codec.specs.Standing.{Stands}
use Rattle.codec.proofs.Numbers.{snoc_is}
use Rattle.codec.proofs.Standing.{stands_join, stands_split, stands_none, stands_same}
use Rattle.codec.proofs.Steps.{ok_same, then_ok, then_on}

-- k values, each right at its index
pub record Row {A : Type 0} (Right : ℕ → A → Type 0) (k : ℕ) (xs : List A) : Type 0 where
  pub many : length xs ≡ k
  pub each : (i : ℕ) (d : A) → i < k → Right i (get_or xs i d)

-- what was read, with the place after it, is right and stands there
abbrev pub Got : {A : Type 0} → List ℕ → ℕ → (A → List ℕ) → (A → Type 0) → A × ℕ → Type 0
Got bs at w Right got = Right got.0 × Stands bs at (w got.0) × (got.1 ≡ at + length (w got.0))

-- one value at a place: what is read stands there
abbrev pub Back : {A : Type 0} → List ℕ → (ℕ → ℕ → Result (A × ℕ) Fault) → (A → List ℕ) → (ℕ → A → Type 0) → Type 0
Back {A} bs read w Right =
    (i at : ℕ) (x : A) (end : ℕ) → at ≤ length bs → read i at ≡ Ok (x, end) → Got bs at w (Right i) (x, end)

-- and what stands there is read
abbrev pub On : {A : Type 0} → List ℕ → (ℕ → ℕ → Result (A × ℕ) Fault) → (A → List ℕ) → (ℕ → A → Type 0) → Type 0
On {A} bs read w Right = (i at : ℕ) (x : A) → Right i x → Stands bs at (w x) → read i at ≡ Ok (x, at + length (w x))

row_more : {A : Type 0} (Right : ℕ → A → Type 0) (k : ℕ) (xs : List A) (x : A) → Row Right k xs → Right k x → Row Right (suc k) (xs ++ x ∷ [])
row_more Right k xs x r h = record {
  many = let e = length_push xs x in let m = r.many in omega arith;
  each = λ i d l.
      ⊎_elim
      (λ (p : i < k). subst (Right i) (sym (get_or_append_left xs (x ∷ []) d i (let m = r.many in omega arith))) (r.each i d p))
      (λ (q : k ≤ i). let same : k ≡ i = omega arith in
      subst (λ j. Right j (get_or (xs ++ x ∷ []) j d)) same (subst (Right k) (sym (get_or_push xs x d k r.many)) h))
      (cases_lt i k);
}

pub several_back : {A : Type 0} (bs : List ℕ) (read : ℕ → ℕ → Result (A × ℕ) Fault) (w : A → List ℕ) (Right : ℕ → A → Type 0) → Back bs read w Right → (k at : ℕ) (xs : List A) (end : ℕ) → at ≤ length bs → several read at k ≡ Ok (xs, end) → Got bs at (flat_map w) (Row Right k) (xs, end)
several_back bs read w Right back zero at xs end h e =
    let same = ok_same e in
    subst (Got bs at (flat_map w) (Row Right zero)) same
    (record { many = refl; each = λ i d l. absurd (omega arith) }, stands_none bs at h, sym (add-zero at))
several_back bs read w Right back (suc k) at xs end h e =
    let a = then_ok (several read at k) _ e in
    let b = then_ok (read k a.0.1) _ a.2 in
    let ih = several_back bs read w Right back k at a.0.0 a.0.1 h a.1 in
    let s = ih.1 in
    let room : a.0.1 ≤ length bs = omega (arith, ih.2, s.inside) in
    let step = back k a.0.1 b.0.0 b.0.1 room b.1 in
    let push : flat_map w (a.0.0 ++ b.0.0 ∷ []) ≡ flat_map w a.0.0 ++ w b.0.0 = sym (flat_map_more w [] a.0.0 b.0.0) in
    subst (Got bs at (flat_map w) (Row Right (suc k))) (ok_same b.2) (
      row_more Right k a.0.0 b.0.0 ih.0 step.0,
      stands_same (sym push) (stands_join s step.1 ih.2),
      (let l = length-append (flat_map w a.0.0) (w b.0.0) in
          let m = ap length push in
          omega (arith, ih.2, step.2)),
    )

pub several_on : {A : Type 0} (bs : List ℕ) (read : ℕ → ℕ → Result (A × ℕ) Fault) (w : A → List ℕ) (Right : ℕ → A → Type 0) → On bs read w Right → (k at : ℕ) (xs : List A) → Row Right k xs → Stands bs at (flat_map w xs) → several read at k ≡ Ok (xs, at + length (flat_map w xs))
several_on {A} bs read w Right on zero at xs r s =
    let none : List A = [] in
    subst (λ l. several read at zero ≡ Ok (l, at + length (flat_map w l))) (sym (nil_from_length xs r.many)) (ap (λ m. Ok (none, m)) (sym (add-zero at)))
several_on bs read w Right on (suc k) at [] r s = absurd (let m = r.many in omega arith)
several_on {A} bs read w Right on (suc k) at (d ∷ rest) r s =
    let xs : List A = d ∷ rest in
    let split = snoc_is k xs d r.many in
    let ys : List A = take k xs in
    let y : A = get_or xs k d in
    let push : flat_map w xs ≡ flat_map w ys ++ w y = ap (flat_map w) split ∙ sym (flat_map_more w [] ys y) in
    let front : length ys ≡ k = length-take-le k xs (let m = r.many in omega arith) in
    let before : Row Right k ys = record {
      many = front;
      each = λ i e l. subst (Right i) (sym (get_or-take k xs i e l)) (r.each i e (omega arith));
    } in
    let mid : ℕ = at + length (flat_map w ys) in
    let t = stands_split (flat_map w ys) (w y) mid refl (stands_same push s) in
    let ih = several_on bs read w Right on k at ys before t.0 in
    let last = on k mid y (r.each k d (omega arith)) t.1 in
    let long : mid + length (w y) ≡ at + length (flat_map w xs) =
    (let l = length-append (flat_map w ys) (w y) in let m = ap length push in omega arith) in
    let found : ys ++ y ∷ [] ≡ xs = sym split in
    then_on _ ih (then_on _ last (cc))

-- a row that is right by the value alone
pub row_all : {A : Type 0} (Right : A → Type 0) (k : ℕ) (xs : List A) → Row (λ i. Right) k xs → AllByRecursion Right xs
row_all Right k [] r = tt
row_all Right k (d ∷ xs) r = All-from_get_or Right (d ∷ xs) d (λ i l. r.each i d (subst (λ m. i < m) r.many l))

pub all_row : {A : Type 0} (Right : A → Type 0) (k : ℕ) (xs : List A) → length xs ≡ k → AllByRecursion Right xs → Row (λ i. Right) k xs
all_row Right k xs h all = record { many = h; each = λ i d l. All-get_or Right xs i d (subst (λ m. i < m) (sym h) l) all }
