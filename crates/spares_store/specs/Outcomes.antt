-- What comes of a movement: the new stock, or why there is none. A stock is 0 to 60,000.
use Rattle.std.specs.Prelude.{ℕ, ◌+◌, ◌-◌, cond, Ok, Err, Result, nat_le}
use Rattle.spares_store.specs.declared.movement.Direction.{Direction}
use Rattle.spares_store.specs.declared.movement.Direction.TheVariants.{In, Out}
use Rattle.spares_store.specs.declared.refusal.Refusal.{Refusal}
use Rattle.spares_store.specs.declared.refusal.Refusal.TheVariants.{TooFew, TooMany, WrongPayload}

abbrev pub after_moving : Direction → ℕ → ℕ → Result ℕ Refusal
after_moving In stock quantity = cond (nat_le (stock + quantity) 60000) (Ok (stock + quantity)) (Err TooMany)
after_moving Out stock quantity = cond (nat_le quantity stock) (Ok (stock - quantity)) (Err TooFew)

-- the result that is answered
abbrev pub number : Result ℕ Refusal → ℕ
number (Ok stock) = stock
number (Err TooFew) = 100000
number (Err TooMany) = 100001
number (Err WrongPayload) = 100002
