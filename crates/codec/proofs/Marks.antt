-- The mark that bytes begin with. Assumes nothing.
use Rattle.std.proofs.Common.{◌≡◌, ℕ, List, ◌+◌, ◌++◌, length, Some, Ok, Option, refl, ap, arith, length-append}
use Rattle.std.proofs.lemmas.Bool.Decides.{nat_tests}
use Rattle.records.specs.Numbers.{put}
use Rattle.records.specs.Marks.{letters, mark_of}
use Rattle.records.specs.Range.{Bytes, Fits}
use Rattle.records.specs.Reading.{number_at, mark_at, mark_or}
use Rattle.records.specs.Writing.{mark_bytes, head_bytes}
use Rattle.records.specs.declared.marks.Mark.{Mark}
use Rattle.records.specs.declared.marks.Mark.TheVariants as mark
use Rattle.codec.specs.Standing.{Stands}
use Rattle.codec.proofs.Numbers.{put_length}
use Rattle.codec.proofs.Standing.{stands_join, stands_split, stands_same}
use Rattle.codec.proofs.Steps.{then_by, then_on, number_back, number_on}

letter_is : (k : ℕ) (m : Mark) → mark_of k ≡ Some m → k ≡ letters m
letter_is k m e = grind (arith, nat_tests)

known : (o : Option Mark) (m : Mark) → mark_or o ≡ Ok m → o ≡ Some m
known o m e = grind arith

-- a mark's letters are two bytes, and make the mark
letters_of : (m : Mark) → Fits 2 (letters m) × (mark_of (letters m) ≡ Some m)
letters_of mark.Request = (omega arith, refl)
letters_of mark.Propose = (omega arith, refl)
letters_of mark.Prepare = (omega arith, refl)
letters_of mark.CheckCommit = (omega arith, refl)
letters_of mark.Inform = (omega arith, refl)
letters_of mark.Failure = (omega arith, refl)
letters_of mark.ViewState = (omega arith, refl)
letters_of mark.NewView = (omega arith, refl)

pub mark_back : (bs : List ℕ) → Bytes bs → (m : Mark) → mark_at bs ≡ Ok m → Stands bs 0 (mark_bytes m)
unfolding mark_bytes
mark_back bs all m e =
    then_by (number_at 2 bs 0) _ e (λ k read e₁.
    stands_same (ap (put 2) (letter_is k m (known (mark_of k) m e₁))) (number_back 2 bs 0 k all read).1)

pub mark_on : (bs : List ℕ) (m : Mark) → Stands bs 0 (mark_bytes m) → mark_at bs ≡ Ok m
unfolding mark_bytes
mark_on bs m s = let l = letters_of m in then_on _ (number_on 2 bs 0 (letters m) l.0 s) (ap mark_or l.1)

pub mark_length : (m : Mark) → length (mark_bytes m) ≡ 2
unfolding mark_bytes
mark_length m = put_length 2 (letters m)

pub head_length : (m : Mark) (sender : ℕ) → length (head_bytes m sender) ≡ 3
unfolding head_bytes mark_bytes
head_length m sender = simp (length-append, put_length)

-- a mark, a sender and what follows
pub head_join : {bs : List ℕ} {at : ℕ} (m : Mark) (sender : ℕ) {xs : List ℕ} → Stands bs at (mark_bytes m) → Stands bs (at + 2) (put 1 sender) → Stands bs (at + 3) xs → Stands bs at (head_bytes m sender ++ xs)
unfolding head_bytes
head_join m sender t a x =
    let l : length (mark_bytes m ++ put 1 sender) ≡ 3 = head_length m sender in
    stands_join (stands_join t a (omega (arith, mark_length m))) x (omega arith)

pub head_split : {bs : List ℕ} {at : ℕ} (m : Mark) (sender : ℕ) (xs : List ℕ) → Stands bs at (head_bytes m sender ++ xs) → Stands bs at (mark_bytes m) × Stands bs (at + 2) (put 1 sender) × Stands bs (at + 3) xs
unfolding head_bytes
head_split {at = at} m sender xs s =
    let l : length (mark_bytes m ++ put 1 sender) ≡ 3 = head_length m sender in
    let t = stands_split (mark_bytes m ++ put 1 sender) xs (at + 3) (omega arith) s in
    let head = stands_split (mark_bytes m) (put 1 sender) (at + 2) (omega (arith, mark_length m)) t.0 in
    (head.0, head.1, t.1)
