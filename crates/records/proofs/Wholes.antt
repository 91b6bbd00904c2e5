-- A record that was read to the end of the bytes is the answer. Assumes nothing.
use Rattle.std.proofs.Common.{◌≡◌, ℕ, eqb, List, length, Ok, Result, arith}
use Rattle.std.proofs.lemmas.Bool.Decides.{nat_tests}
use Rattle.quorum.specs.declared.refusal.Fault.{Fault}
use Rattle.records.specs.Reading.{◌then◌, check, whole}

-- the last test of a reader, passed
pub ends_whole : {A : Type 0} (r : Result (A × ℕ) Fault) (bs : List ℕ) (x : A) (end : ℕ) (u : Unit {0}) → r ≡ Ok (x, end) → check (eqb (length bs) end) end (Ok tt) ≡ Ok u → Ok x ≡ (r then (λ got. whole bs got))
ends_whole r bs x end u e t = rw e (grind (arith, nat_tests))
