-- What holds of the store.
use Rattle.std.specs.Prelude.{◌≡◌, ℕ, ◌<◌, ◌≤◌, List, length, Some, ◌≢◌, slice_index}
use Rattle.payload.specs.declared.payload.Payload.{Payload}
use Rattle.spares_store.specs.Movements.{movement_of}
use Rattle.spares_store.specs.Stocks.{Bounded, answer, stepped}
use Rattle.spares_store.specs.declared.movement.Direction.TheVariants.{Out}
use Rattle.spares_store.specs.declared.movement.Movement.{Movement}

pub record StoreRules : Type 0 where
  -- one out of an empty stock is too few
  pub empty_stock :
      (stocks : List ℕ) (p : Payload) (part : ℕ)
      → movement_of p ≡ Some (record { direction = Out; part = part; quantity = 1 })
      → slice_index stocks part ≡ 0 → answer stocks p ≡ 100000
  -- a result that is no stock changes none
  pub unchanged : (stocks : List ℕ) (p : Payload) → Bounded stocks → 60000 < answer stocks p → stepped stocks p ≡ stocks
  -- a result that is a stock is the part's new one, and no other moved
  pub new_stock :
      (stocks : List ℕ) (p : Payload) (m : Movement) → movement_of p ≡ Some m → m.part < length stocks
      → answer stocks p ≤ 60000 → slice_index (stepped stocks p) m.part ≡ answer stocks p
  pub others :
      (stocks : List ℕ) (p : Payload) (m : Movement) (part : ℕ) → movement_of p ≡ Some m → (part ≢ m.part)
      → slice_index (stepped stocks p) part ≡ slice_index stocks part
  -- as many stocks as before, within the bounds
  pub as_many : (stocks : List ℕ) (p : Payload) → length (stepped stocks p) ≡ length stocks
  pub stays_bounded : (stocks : List ℕ) (p : Payload) → Bounded stocks → Bounded (stepped stocks p)
