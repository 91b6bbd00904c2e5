-- What a reader says of a cursor: what stands in the bytes at its place, and where the cursor stands then.
use Rattle.std.specs.Prelude.{◌≡◌, ℕ, ◌+◌, List, Ok, Err, Result, OnOk}
use Rattle.std.specs.Borrow.{MutBor}
use Rattle.quorum.specs.declared.refusal.Fault.{Fault}
use Rattle.records.specs.Lists.{filled}
use Rattle.records.specs.Reading.{◌then◌, several, mark_at, whole}
use Rattle.records.specs.declared.few.Few.{Few}
use Rattle.records.specs.declared.marks.Mark.{Mark}
use Rattle.reader.specs.declared.cursor.Cursor.{Cursor}

-- The bytes stay, the answer is what `read` says of them at the place before, and what was read has so many bytes.
pub record Reads {A : Type 0} (size : ℕ) (read : List ℕ → ℕ → Result A Fault) (old new : Cursor) (r : Result A Fault) : Type 0 where
  pub same : new.bytes ≡ old.bytes
  pub value : r ≡ read old.bytes.now old.at
  pub moved : OnOk r (new.at ≡ old.at + size)

-- an answer with the place after it
abbrev pub with_place : {A : Type 0} → Result A Fault → ℕ → Result (A × ℕ) Fault
with_place (Ok x) at = Ok (x, at)
with_place (Err e) at = Err e

-- The same where the bytes say how long it is, so that `read` gives the place after it too.
pub record ReadsOn {A : Type 0} (read : List ℕ → ℕ → Result (A × ℕ) Fault) (old new : Cursor) (r : Result A Fault) : Type 0 where
  pub same : new.bytes ≡ old.bytes
  pub value : with_place r new.at ≡ read old.bytes.now old.at

-- both from a known place on: the bytes' beginning, or behind the mark
abbrev pub ReadsFrom : {A : Type 0} → ℕ → ℕ → (List ℕ → Result A Fault) → Cursor → Cursor → Result A Fault → Type 0
ReadsFrom place size read old new r = old.at ≡ place → Reads size (λ bs at. read bs) old new r

abbrev pub ReadsOnFrom : {A : Type 0} → ℕ → (List ℕ → Result (A × ℕ) Fault) → Cursor → Cursor → Result A Fault → Type 0
ReadsOnFrom place read old new r = old.at ≡ place → ReadsOn (λ bs at. read bs) old new r

-- each call of a closure, by its `post`, reads so
abbrev pub AlwaysReadsOn : {A : Type 0} → (MutBor Cursor → Result A Fault → MutBor Cursor → Type 0) → (List ℕ → ℕ → Result (A × ℕ) Fault) → Type 0
AlwaysReadsOn {A} post read = (p q : MutBor Cursor) (r : Result A Fault) → post p r q → ReadsOn read p.now q.now r

-- and so behind the mark that it is given
abbrev pub ReadsBehind : {A : Type 0} → (MutBor Cursor → Mark → Result A Fault → MutBor Cursor → Type 0) → (List ℕ → Mark → Result (A × ℕ) Fault) → Type 0
ReadsBehind {A} post behind =
    (p q : MutBor Cursor) (m : Mark) (r : Result A Fault) → post p m r q → ReadsOnFrom 2 (λ bs. behind bs m) p.now q.now r

-- so many values one after another, in a list of n places of which the others are blank
abbrev pub list_of : {A : Type 0} → A → (n : ℕ) → (List ℕ → ℕ → Result (A × ℕ) Fault) → ℕ → List ℕ → ℕ → Result (Few A n × ℕ) Fault
list_of blank n read count bs at =
    several (λ i. read bs) at count then (λ xs. Ok (filled blank n xs.0, xs.1))

-- the bytes as exactly one record, of which `behind` says what stands behind each mark
abbrev pub whole_behind : {A : Type 0} → (List ℕ → Mark → Result (A × ℕ) Fault) → List ℕ → Result A Fault
whole_behind behind bs = mark_at bs then (λ m. behind bs m then (λ got. whole bs got))
