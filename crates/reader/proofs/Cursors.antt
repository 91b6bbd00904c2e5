-- What a reader's answer says of the bytes, at the place counted from where the whole begins. Assumes nothing.
use Rattle.std.proofs.Common.{◌≡◌, ℕ, ◌+◌, List, Ok, Err, Result, refl, sym, ap, ◌∙◌}
use Rattle.std.specs.Borrow.{Bor}
use Rattle.quorum.specs.declared.refusal.Fault.{Fault}
use Rattle.records.specs.Reading.{◌then◌}
use Rattle.reader.specs.declared.cursor.Cursor.{Cursor}
use Rattle.reader.specs.Cursor.{Reads, ReadsOn, with_place}

-- what has a size that is known
pub value_at : {A : Type 0} {size : ℕ} (read : List ℕ → ℕ → Result A Fault) {old new : Cursor} {r : Result A Fault} {bytes : Bor (List ℕ)} {at : ℕ} → old.bytes ≡ bytes → old.at ≡ at → Reads size read old new r → r ≡ read bytes.now at
value_at read same place h = rw (h.value, same, place)

pub value_ok : {A : Type 0} {size : ℕ} (read : List ℕ → ℕ → Result A Fault) {old new : Cursor} {r : Result A Fault} {bytes : Bor (List ℕ)} {at : ℕ} {x : A} → old.bytes ≡ bytes → old.at ≡ at → Reads size read old new r → r ≡ Ok x → read bytes.now at ≡ Ok x
value_ok read same place h e = sym (value_at read same place h) ∙ e

-- the same, with the place after it
pub with_size : {A : Type 0} (size : ℕ) (read : List ℕ → ℕ → Result A Fault) {old new : Cursor} (r : Result A Fault) → Reads size read old new r → ReadsOn (λ bs at. read bs at then (λ x. Ok (x, at + size))) old new r
with_size size read (Ok x) h = record { same = h.same; value = rw (← h.value, h.moved) }
with_size size read (Err f) h = record { same = h.same; value = rw (← h.value) }

module _ {A : Type 0} (read : List ℕ → ℕ → Result (A × ℕ) Fault) {old new : Cursor} {r : Result A Fault} {bytes : Bor (List ℕ)} {at : ℕ} (same : old.bytes ≡ bytes) (place : old.at ≡ at) (h : ReadsOn read old new r) where
  pub value_on : with_place r new.at ≡ read bytes.now at
  value_on = rw (h.value, same, place)

  pub read_ok : {x : A} → r ≡ Ok x → read bytes.now at ≡ Ok (x, new.at)
  read_ok e = sym value_on ∙ ap (λ r. with_place r new.at) e

  pub read_err : {f : Fault} → r ≡ Err f → read bytes.now at ≡ Err f
  read_err e = sym value_on ∙ ap (λ r. with_place r new.at) e

-- two steps and then one are one and then two
pub then_then : {A B C : Type 0} (r : Result A Fault) (f : A → Result B Fault) (g : B → Result C Fault) → ((r then f) then g) ≡ (r then (λ x. f x then g))
then_then (Ok x) f g = refl
then_then (Err e) f g = refl

-- a fault of the first step is the fault of all
pub then_err : {A B : Type 0} {r : Result A Fault} (f : A → Result B Fault) {e : Fault} → r ≡ Err e → (r then f) ≡ Err e
then_err f p = ap (λ r. r then f) p
