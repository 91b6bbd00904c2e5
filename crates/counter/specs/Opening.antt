-- What opening answers and leaves.
use Rattle.std.specs.Prelude.{◌≡◌, ℕ, ◌+◌, Bool, cond, List, ◌++◌, length, take, replicate, is_some, Some, None, Ok, Err, Result, nat_le}
use Rattle.quorum.specs.declared.refusal.Fault.{Fault}
use Rattle.quorum.specs.declared.refusal.Fault.TheVariants.{NoRoom, NotNow, OutOfRange}
use Rattle.outbox.specs.declared.tray.Tray.{Tray}
use Rattle.records.specs.Statements.{covered}
use Rattle.records.specs.Writing.{record_bytes}
use Rattle.records.specs.declared.arrivals.Record.TheVariants as rec
use Rattle.records.specs.declared.request.Request.{Request}
use Rattle.counter.specs.declared.parts.Asked.{Asked}
use Rattle.counter.specs.Standing.{Core}
use Rattle.counter.specs.declared.parts.Ticket.{Ticket}

abbrev pub last_sequence : ℕ
last_sequence = 4294967295

-- a request under the seal that a box gives it
abbrev pub sealed_by : (List ℕ → ℕ) → Request → Request
sealed_by tag r =
    record { client = r.client; sequence = r.sequence; payload = r.payload; seal = tag (covered (rec.Request r)) }

abbrev pub unsealed : ℕ → ℕ → List ℕ → Request
unsealed client sequence bytes =
    record { client = client; sequence = sequence; payload = record { bytes = bytes }; seal = 0 }

-- has a tray room for a request?
abbrev pub has_room : Tray → Bool
has_room tray = nat_le (tray.fill.used + 32) (length tray.memory.now)

-- the request of an opening: there must be room for it, no other request open, and a sequence left
abbrev pub asks : Bool → (List ℕ → ℕ) → Core → List ℕ → Result Request Fault
asks room tag core bytes =
    cond room
    (cond (is_some core.current) (Err (NotNow 0))
    (cond (nat_le core.next last_sequence) (Ok (sealed_by tag (unsealed core.client core.next bytes))) (Err (OutOfRange 0))))
    (Err NoRoom)

-- a request that is open, of which nothing was heard
abbrev pub unheard : Request → Asked
unheard r = record { request = r; heard = replicate 10 None }

-- the ticket and the counter after; a refusal uses up no sequence
abbrev pub opened : Core → Result Request Fault → Result Ticket Fault × Core
opened core (Err f) = (Err f, core)
opened core (Ok r) = (
  Ok (record { client = r.client; sequence = r.sequence }),
  record { stations = core.stations; client = core.client; next = core.next + 1; current = Some (unheard r) },
)

-- the tray after: the request behind what was sent before, or nothing new
abbrev pub Posted : List ℕ → List ℕ → ℕ → ℕ → Result Request Fault → Type 0
Posted before after used used' (Err f) = (used' ≡ used) × (take used after ≡ take used before)
Posted before after used used' (Ok r) =
    (used' ≡ used + 32) × (take (used + 32) after ≡ take used before ++ record_bytes (rec.Request r))

-- a request posted into a tray, whose memory is still the memory that was lent, and as long
pub record PostedInto (before after : Tray) (answer : Result Request Fault) : Type 0 where
  pub same : after.memory.ghost_name ≡ before.memory.ghost_name
  pub long : length after.memory.now ≡ length before.memory.now
  pub posted : Posted before.memory.now after.memory.now before.fill.used after.fill.used answer
