-- One step of reading: what it read where all was read, and how it goes on. Assumes nothing.
use Rattle.std.proofs.Common.{◌≡◌, ℕ, ◌+◌, ◌≤◌, Bool, true, false, ◌&&◌, leb, List, length, take, drop, Ok, Err, Result, sym, refl, ap, ◌∙◌, subst, arith, length-drop, length-take}
use Rattle.std.proofs.ByRecursion.{All-take, All-drop}
use Rattle.std.proofs.lemmas.Bool.{leb-true, le-leb, and_parts, and_from, cond-true}
use Rattle.quorum.specs.declared.refusal.Fault.{Fault}
use Rattle.records.specs.Numbers.{put, number_of}
use Rattle.records.specs.Range.{Byte, Bytes, Fits}
use Rattle.records.specs.Reading.{◌then◌, check, part_at, number_at, view_at}
use Rattle.codec.specs.Standing.{Stands}
use Rattle.codec.proofs.Numbers.{put_length, number_put, put_number, number_fits}

pub ok_same : {A : Type 0} {x y : A} → ◌≡◌ {A = Result A Fault} (Ok x) (Ok y) → x ≡ y
ok_same e = cc

pub then_ok : {A B : Type 0} (r : Result A Fault) (f : A → Result B Fault) {y : B} → (r then f) ≡ Ok y → (x : A) × (r ≡ Ok x) × (f x ≡ Ok y)
then_ok (Ok x) f e = (x, refl, e)
then_ok (Err d) f {y} e = absurd (grind arith)

-- the same, for a proof that goes on with what was read
pub then_by : {A B : Type 0} {P : Type 0} (r : Result A Fault) (f : A → Result B Fault) {y : B} → (r then f) ≡ Ok y → ((x : A) → r ≡ Ok x → f x ≡ Ok y → P) → P
then_by r f e go = let a = then_ok r f e in go a.0 a.1 a.2

pub then_on : {A B : Type 0} {r : Result A Fault} (f : A → Result B Fault) {x : A} {y : Result B Fault} → r ≡ Ok x → f x ≡ y → (r then f) ≡ y
then_on f {x} p q = ap (λ r. r then f) p ∙ q

pub check_ok : {A : Type 0} (b : Bool) (at : ℕ) (r : Result A Fault) {y : A} → check b at r ≡ Ok y → (b ≡ true) × (r ≡ Ok y)
check_ok true at r e = (refl, e)
check_ok false at r e = absurd (grind arith)

pub check_by : {A : Type 0} {P : Type 0} (b : Bool) (at : ℕ) (r : Result A Fault) {y : A} → check b at r ≡ Ok y → (b ≡ true → r ≡ Ok y → P) → P
check_by b at r e go = let a = check_ok b at r e in go a.0 a.1

pub check_on : {A : Type 0} {b : Bool} (at : ℕ) {r s : Result A Fault} → b ≡ true → r ≡ s → check b at r ≡ s
check_on at {r} p q = ap (λ b. check b at r) p ∙ q

-- k bytes
pub part_back : (k : ℕ) (bs : List ℕ) (at : ℕ) (xs : List ℕ) → Bytes bs → part_at k bs at ≡ Ok xs → (length xs ≡ k) × Bytes xs × Stands bs at xs
part_back k bs at xs all e =
    let a = check_ok (leb (at + k) (length bs)) (length bs) (Ok (take k (drop at bs))) e in
    let xs-is : take k (drop at bs) ≡ xs = ok_same a.1 in
    let room : at + k ≤ length bs = leb-true (at + k) (length bs) a.0 in
    let long : length (take k (drop at bs)) ≡ k = simp (length-take, length-drop) (omega arith) in
    let long-xs : length xs ≡ k = ap length (sym xs-is) ∙ long in (
      long-xs,
      subst Bytes xs-is (All-take Byte k (drop at bs) (All-drop Byte at bs all)),
      record { inside = omega arith; there = ap (λ m. take m (drop at bs)) long-xs ∙ xs-is },
    )

pub part_on : (k : ℕ) (bs : List ℕ) (at : ℕ) (xs : List ℕ) → length xs ≡ k → Stands bs at xs → part_at k bs at ≡ Ok xs
part_on k bs at xs h s =
    cond-true (leb (at + k) (length bs)) (Ok (take k (drop at bs))) _ (le-leb (at + k) (length bs) (omega arith))
    ∙ ap Ok (ap (λ m. take m (drop at bs)) (sym h) ∙ s.there)

-- a number of k bytes
pub number_back : (k : ℕ) (bs : List ℕ) (at n : ℕ) → Bytes bs → number_at k bs at ≡ Ok n → Fits k n × Stands bs at (put k n)
number_back k bs at n all e =
    let a = then_ok (part_at k bs at) (λ part. Ok (number_of part)) e in
    let p = part_back k bs at a.0 all a.1 in
    let n-is : number_of a.0 ≡ n = ok_same a.2 in (
      subst (Fits k) n-is (number_fits k a.0 p.0 p.1),
      subst (Stands bs at) (sym (put_number k a.0 p.0 p.1) ∙ ap (put k) n-is) p.2,
    )

pub number_on : (k : ℕ) (bs : List ℕ) (at n : ℕ) → Fits k n → Stands bs at (put k n) → number_at k bs at ≡ Ok n
number_on k bs at n h s =
    then_on (λ part. Ok (number_of part)) (part_on k bs at (put k n) (put_length k n) s) (ap Ok (number_put k n h))

-- a view between two bounds
pub view_back : (low high : ℕ) (bs : List ℕ) (at n : ℕ) → Bytes bs → view_at low high bs at ≡ Ok n → (low ≤ n) × (n ≤ high) × Stands bs at (put 4 n)
view_back low high bs at n all e =
    let a = then_ok (number_at 4 bs at) (λ view. check (leb low view && leb view high) at (Ok view)) e in
    let c = check_ok (leb low a.0 && leb a.0 high) at (Ok a.0) a.2 in
    let t = and_parts (leb low a.0) (leb a.0 high) c.0 in
    let n-is : a.0 ≡ n = ok_same c.1 in
    subst (λ m. (low ≤ m) × (m ≤ high) × Stands bs at (put 4 m)) n-is
    (leb-true low a.0 t.0, leb-true a.0 high t.1, (number_back 4 bs at a.0 all a.1).1)

pub view_on : (low high : ℕ) (bs : List ℕ) (at n : ℕ) → low ≤ n → n ≤ high → Fits 4 high → Stands bs at (put 4 n) → view_at low high bs at ≡ Ok n
view_on low high bs at n l h f s =
    then_on (λ view. check (leb low view && leb view high) at (Ok view)) (number_on 4 bs at n (omega arith) s)
    (check_on at (and_from (leb low n) (leb n high) (le-leb low n l) (le-leb n high h)) refl)
