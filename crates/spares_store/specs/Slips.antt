-- The store's slips: 1, a part and the stock that it had; or three zeros where no stock changed.
use Rattle.std.specs.Prelude.{◌≡◌, ℕ, cond, ◌&&◌, List, Some, None, Option, Ok, Err, Result, MatchResult, ◌==◌, nat_le, nat_lt, slice_index, slice_set}
use Rattle.payload.specs.declared.payload.Payload.{Payload}
use Rattle.services.specs.declared.slip.Slip.{Slip}
use Rattle.spares_store.specs.Movements.{movement_of}
use Rattle.spares_store.specs.Stocks.{Bounded, moved, outcome}
use Rattle.spares_store.specs.declared.former.Former.{Former}
use Rattle.spares_store.specs.declared.movement.Movement.{Movement}
use Rattle.spares_store.specs.declared.refusal.Refusal.{Refusal}

abbrev pub slip_for : Option Former → Slip
slip_for None = record { first = 0; second = 0; third = 0 }
slip_for (Some f) = record { first = 1; second = f.part; third = f.stock }

-- a slip read back, whoever wrote it
abbrev pub former_in : Slip → Option Former
former_in slip =
    cond (slip.first == 1 && (nat_lt slip.second 32 && nat_le slip.third 60000))
    (Some (record { part = slip.second; stock = slip.third })) None

abbrev pub put_back : List ℕ → Option Former → List ℕ
put_back stocks None = stocks
put_back stocks (Some f) = slice_set stocks f.part f.stock

-- what undoing a movement has to know
abbrev pub kept : List ℕ → ℕ → Result ℕ Refusal → Option Former
kept stocks part (Ok n) = Some (record { part = part; stock = slice_index stocks part })
kept stocks part (Err refusal) = None

abbrev pub former_of : List ℕ → Option Movement → Option Former
former_of stocks None = None
former_of stocks (Some m) = kept stocks m.part (outcome stocks (Some m))

-- a movement was carried out, or a payload was none: r tells the new stock and what undoing has to know, or why not
pub record Applied (stocks : List ℕ) (o : Option Movement) (r : Result (ℕ × Former) Refusal) (after : List ℕ) : Type 0 where
  pub answers : MatchResult r (λ done. outcome stocks o ≡ Ok done.0) (λ refusal. outcome stocks o ≡ Err refusal)
  pub keeps : MatchResult r (λ done. former_of stocks o ≡ Some done.1) (λ refusal. former_of stocks o ≡ None)
  pub leaves : after ≡ moved stocks o

-- a slip that undoes the step by p from these stocks
pub record Undoes (stocks : List ℕ) (p : Payload) (slip : Slip) : Type 0 where
  pub keeps : slip ≡ slip_for (former_of stocks (movement_of p))
  pub bounded : Bounded stocks
