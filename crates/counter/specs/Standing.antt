-- What a counter holds.
use Rattle.std.specs.Prelude.{ℕ, Bool, true, Some, None, Option}
use Rattle.informs.specs.Agreed.{placed}
use Rattle.counter.specs.declared.parts.Asked.{Asked}

-- a counter as its contracts see it: its number of stations, its client, the sequence of the next opening, and the
-- request that is open
pub record Core : Type 0 where
  pub stations : ℕ
  pub client : ℕ
  pub next : ℕ
  pub current : Option Asked

-- each inform that is kept stands at its station's place
abbrev pub placed_in : ℕ → Option Asked → Bool
placed_in n None = true
placed_in n (Some a) = placed n a.heard
