-- What a row of places holds, and what adding to it answers and leaves.
use Rattle.std.specs.Prelude.{ℕ, suc, Bool, true, false, cond, List, [], ◌∷◌, is_some, Some, None, Ok, Err, Option, Result, ◌==◌, slice_set}
use Rattle.quorum.specs.declared.refusal.Fault.{Fault}
use Rattle.quorum.specs.declared.refusal.Fault.TheVariants.{OutOfRange, Conflict}
use Rattle.signers.specs.declared.row.Entry.{Entry}

-- the secret that a row of places holds for a number
abbrev pub found : {T : Type 0} → List (Option (Entry T)) → ℕ → Option T
found [] n = None
found (None ∷ row) n = found row n
found (Some entry ∷ row) n = cond (entry.number == n) (Some entry.secret) (found row n)

-- are all places of a row taken?
abbrev pub full : {T : Type 0} → List (Option (Entry T)) → Bool
full [] = true
full (None ∷ row) = false
full (Some entry ∷ row) = full row

-- the first free place of a row, counted from 0
abbrev pub first_free : {T : Type 0} → List (Option (Entry T)) → ℕ
first_free [] = 0
first_free (None ∷ row) = 0
first_free (Some entry ∷ row) = suc (first_free row)

-- the place for a new number in a row: none when all places are taken, then none when the row has the number
abbrev pub place_for : {T : Type 0} → List (Option (Entry T)) → ℕ → Result ℕ Fault
place_for row n =
    cond (full row) (Err (OutOfRange 0))
    (cond (is_some (found row n)) (Err (Conflict 0))
    (Ok (first_free row)))

-- an entry at its place, or the refusal and the row as it was
abbrev pub put_at : {T : Type 0} → List (Option (Entry T)) → Entry T → Result ℕ Fault → Result (Unit {0}) Fault × List (Option (Entry T))
put_at row entry (Err e) = (Err e, row)
put_at row entry (Ok place) = (Ok tt, slice_set row place (Some entry))

-- adding to a row
abbrev pub put : {T : Type 0} → List (Option (Entry T)) → Entry T → Result (Unit {0}) Fault × List (Option (Entry T))
put row entry = put_at row entry (place_for row entry.number)
