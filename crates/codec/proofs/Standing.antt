-- Bytes that stand at a place: two in a row stand where each of them does. Assumes nothing.
use Rattle.std.proofs.Common.{◌≡◌, ℕ, ◌+◌, ◌≤◌, List, [], ◌++◌, length, take, drop, sym, refl, ap, ◌∙◌, subst, arith, length-append}
use Rattle.std.proofs.Math.Seq.{take-add}
use Rattle.std.proofs.lemmas.List.{take_at, take_all, drop_at, drop-drop, take-take, drop-take}
use Rattle.records.specs.Numbers.{put}
use Rattle.codec.specs.Standing.{Stands}
use Rattle.codec.proofs.Numbers.{put_length}

pub stands_join : {bs : List ℕ} {at mid : ℕ} {xs ys : List ℕ} → Stands bs at xs → Stands bs mid ys → mid ≡ at + length xs → Stands bs at (xs ++ ys)
stands_join {bs} {at} {mid} {xs} {ys} p q e =
    let n = length-append xs ys in
    record {
      inside = omega arith;
      there =
          ap (λ k. take k (drop at bs)) n
          ∙ take-add (length xs) (length ys) (drop at bs)
          ∙ ap (λ l. l ++ take (length ys) (drop (length xs) (drop at bs))) p.there
          ∙ ap (λ l. xs ++ take (length ys) l) (drop-drop (length xs) at bs)
          ∙ ap (λ k. xs ++ take (length ys) (drop k bs)) (sym e)
          ∙ ap (λ l. xs ++ l) q.there;
    }

pub stands_left : {bs : List ℕ} {at : ℕ} (xs ys : List ℕ) → Stands bs at (xs ++ ys) → Stands bs at xs
stands_left {bs} {at} xs ys p =
    let n = length-append xs ys in
    record {
      inside = omega (arith, p.inside);
      there =
          sym (take-take (length xs) (length (xs ++ ys)) (drop at bs) (omega arith))
          ∙ ap (take (length xs)) p.there
          ∙ take_at xs ys (length xs) refl;
    }

pub stands_right : {bs : List ℕ} {at : ℕ} (xs ys : List ℕ) (mid : ℕ) → mid ≡ at + length xs → Stands bs at (xs ++ ys) → Stands bs mid ys
stands_right {bs} {at} xs ys mid e p =
    let n = length-append xs ys in
    record {
      inside = omega (arith, p.inside);
      there =
          ap (λ k. take (length ys) (drop k bs)) e
          ∙ ap (take (length ys)) (sym (drop-drop (length xs) at bs))
          ∙ sym (drop-take (length xs) (length ys) (drop at bs))
          ∙ ap (λ k. drop (length xs) (take k (drop at bs))) (sym n)
          ∙ ap (drop (length xs)) p.there
          ∙ drop_at xs ys (length xs) refl;
    }

-- both parts
pub stands_split : {bs : List ℕ} {at : ℕ} (xs ys : List ℕ) (mid : ℕ) → mid ≡ at + length xs → Stands bs at (xs ++ ys) → Stands bs at xs × Stands bs mid ys
stands_split xs ys mid e p = (stands_left xs ys p, stands_right xs ys mid e p)

-- a number of k bytes, and what comes after it
pub put_join : {bs : List ℕ} {at mid : ℕ} (k n : ℕ) {ys : List ℕ} → Stands bs at (put k n) → Stands bs mid ys → mid ≡ at + k → Stands bs at (put k n ++ ys)
put_join k n p q e = stands_join p q (omega (arith, put_length k n, e))

pub put_split : {bs : List ℕ} {at : ℕ} (k n : ℕ) (ys : List ℕ) (mid : ℕ) → mid ≡ at + k → Stands bs at (put k n ++ ys) → Stands bs at (put k n) × Stands bs mid ys
put_split k n ys mid e p = stands_split (put k n) ys mid (omega (arith, put_length k n, e)) p

pub stands_none : (bs : List ℕ) (at : ℕ) → at ≤ length bs → Stands bs at []
stands_none bs at h = record { inside = omega arith; there = refl }

-- the bytes that others begin with
pub stands_first : (xs rest : List ℕ) → Stands (xs ++ rest) 0 xs
stands_first xs rest =
    let n = length-append xs rest in record { inside = omega arith; there = take_at xs rest (length xs) refl }

pub stands_whole : (xs : List ℕ) → Stands xs 0 xs
stands_whole xs = record { inside = omega arith; there = take_all (length xs) xs (omega arith) }

pub stands_same : {bs : List ℕ} {at : ℕ} {xs ys : List ℕ} → xs ≡ ys → Stands bs at xs → Stands bs at ys
stands_same {bs} {at} e p = subst (λ l. Stands bs at l) e p
