-- What writing does to memory and to a tray. A tray is memory with a fill: the bytes below the fill are records that
-- were sent, and nothing is said of those above it.
use Rattle.std.specs.Prelude.{◌≡◌, ℕ, ◌+◌, ◌≤◌, cond, List, ◌++◌, length, take, Ok, Err, Result, OnOk, nat_le}
use Rattle.std.specs.List.{between}
use Rattle.records.specs.Range.{RightRecord}
use Rattle.records.specs.Reading.{record_of}
use Rattle.records.specs.declared.arrivals.Record.{Record}
use Rattle.quorum.specs.declared.refusal.Fault.{Fault}
use Rattle.quorum.specs.declared.refusal.Fault.TheVariants.{NoRoom}
use Rattle.outbox.specs.declared.tray.Tray.{Tray}

-- the place after so many bytes, where the memory has room for them
abbrev pub room : ℕ → ℕ → ℕ → Result ℕ Fault
room size at many = cond (nat_le (at + many) size) (Ok (at + many)) (Err NoRoom)

-- bytes put into memory at a place: the answer, and the memory after
pub record Written (before after : List ℕ) (at : ℕ) (bytes : List ℕ) (answer : Result ℕ Fault) : Type 0 where
  pub answered : answer ≡ room (length before) at (length bytes)
  pub long : length after ≡ length before
  pub below : take at after ≡ take at before
  pub added : at + length bytes ≤ length before → take (at + length bytes) after ≡ take at before ++ bytes

-- a record sent into a tray: it is there whole behind what was sent before, or the tray is as it was up to its fill
pub record Sent (before after : List ℕ) (used used' : ℕ) (bytes : List ℕ) (answer : Result (Unit {0}) Fault) : Type 0 where
  pub answered : answer ≡ cond (nat_le (used + length bytes) (length before)) (Ok tt) (Err NoRoom)
  pub filled : used' ≡ cond (nat_le (used + length bytes) (length before)) (used + length bytes) used
  pub below : take used after ≡ take used before
  pub added : used + length bytes ≤ length before → take (used + length bytes) after ≡ take used before ++ bytes

-- what was sent reads back from the tray as the record that it was, in every ring in which the record's fields are in
-- range
abbrev pub ReadsBack : List ℕ → ℕ → ℕ → Record → Result (Unit {0}) Fault → Type 0
ReadsBack after used used' sent r =
    OnOk r ((n : ℕ) → 1 ≤ n → n ≤ 10 → RightRecord n sent → record_of n (between used used' after) ≡ Ok sent)

-- a record sent into a tray, whose memory is still the memory that was lent, and as long
pub record SentInto (before after : Tray) (bytes : List ℕ) (answer : Result (Unit {0}) Fault) : Type 0 where
  pub same : after.memory.ghost_name ≡ before.memory.ghost_name
  pub long : length after.memory.now ≡ length before.memory.now
  pub sent : Sent before.memory.now after.memory.now before.fill.used after.fill.used bytes answer

-- what was sent reads back from the tray after, from the fill before to the fill after
abbrev pub ReadsBackFrom : Tray → Tray → Record → Result (Unit {0}) Fault → Type 0
ReadsBackFrom before after sent r = ReadsBack after.memory.now before.fill.used after.fill.used sent r
