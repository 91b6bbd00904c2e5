-- What a pen does to the memory it stands in.
use Rattle.std.specs.Prelude.{◌≡◌, ℕ, List, Ok, Err, Result}
use Rattle.std.specs.Fn.{Once}
use Rattle.std.specs.Borrow.{Bor}
use Rattle.outbox.specs.Trays.{Written}
use Rattle.outbox.specs.declared.pen.Pen.{Pen}
use Rattle.quorum.specs.declared.refusal.Fault.{Fault}

-- the place reached, where the answer is no fault
abbrev pub reached : ℕ → Result (Unit {0}) Fault → Result ℕ Fault
reached at (Ok done) = Ok at
reached at (Err f) = Err f

-- the pen still writes into the same memory, behind the same fill
pub record Stays (before after : Pen) : Type 0 where
  pub memory : after.memory.ghost_name ≡ before.memory.ghost_name
  pub fill : after.fill.ghost_name ≡ before.fill.ghost_name

-- bytes put with a pen: the fill stands behind them unless there was no room
pub record Wrote (before after : Pen) (bytes : List ℕ) (answer : Result (Unit {0}) Fault) : Type 0 where
  pub stays : Stays before after
  pub written : Written before.memory.now after.memory.now before.fill.now.used bytes (reached after.fill.now.used answer)

-- the one seal that a function gives for these bytes
abbrev pub SealsWith : {F : Type 0} → Once F (Bor (List ℕ) × Unit {0}) ℕ → F → List ℕ → ℕ → Type 0
SealsWith once f bytes tag =
    (shown : Bor (List ℕ)) (given : ℕ) → once.post f (shown, tt) given → shown.now ≡ bytes → given ≡ tag
