-- What the store means: its 32 stocks in the order of the parts. What a payload does to them, and what it answers.
use Rattle.std.specs.Prelude.{ℕ, ◌≤◌, cond, List, replicate, Some, None, Option, Ok, Err, Result, nat_lt, slice_index, slice_set}
use Rattle.payload.specs.declared.payload.Payload.{Payload}
use Rattle.spares_store.specs.Movements.{movement_of}
use Rattle.spares_store.specs.Outcomes.{after_moving, number}
use Rattle.spares_store.specs.declared.movement.Movement.{Movement}
use Rattle.spares_store.specs.declared.refusal.Refusal.{Refusal}
use Rattle.spares_store.specs.declared.refusal.Refusal.TheVariants.{WrongPayload}

abbrev pub empty_store : List ℕ
empty_store = replicate 32 0

abbrev pub stock_of : List ℕ → ℕ → Option ℕ
stock_of stocks part = cond (nat_lt part 32) (Some (slice_index stocks part)) None

-- no stock is above 60,000
abbrev pub Bounded : List ℕ → Type 0
Bounded stocks = (part : ℕ) → slice_index stocks part ≤ 60000

-- what comes of carrying out a movement, or of a payload that is none
abbrev pub outcome : List ℕ → Option Movement → Result ℕ Refusal
outcome stocks None = Err WrongPayload
outcome stocks (Some m) = after_moving m.direction (slice_index stocks m.part) m.quantity

-- only a stock as the outcome changes a stock
abbrev pub settled : List ℕ → ℕ → Result ℕ Refusal → List ℕ
settled stocks part (Ok n) = slice_set stocks part n
settled stocks part (Err refusal) = stocks

abbrev pub moved : List ℕ → Option Movement → List ℕ
moved stocks None = stocks
moved stocks (Some m) = settled stocks m.part (outcome stocks (Some m))

-- the store's step and its result, by state and payload
abbrev pub stepped : List ℕ → Payload → List ℕ
stepped stocks p = moved stocks (movement_of p)

abbrev pub answer : List ℕ → Payload → ℕ
answer stocks p = number (outcome stocks (movement_of p))
