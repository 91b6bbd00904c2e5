-- Runs: what good stations did, step by step, in a world where certain seals exist. Bad stations may seal anything at any time.
use Rattle.std.specs.Prelude.{◌≡◌, ℕ, ◌<◌, Bool, true, false, List, [], ◌∷◌}
use Rattle.agreement.specs.States.{State, New}
use Rattle.agreement.specs.Statements.{Statement, Inform, Has}
use Rattle.agreement.specs.Steps.{Step}
use Rattle.quorum.specs.Sets.{Quorum}

-- a station of the ring that is not bad
abbrev pub Good : ℕ → (ℕ → Bool) → ℕ → Type 0
Good n bad i = (i < n) × (bad i ≡ false)

module _ {Request : Type 0} (n : ℕ) (sealed : ℕ → Statement Request → Type 0) where
  -- the state s was reached from a new one through these earlier states, the latest first
  abbrev pub Trace : State Request → List (State Request) → Type 0
  Trace s [] = New s
  Trace s (before ∷ earlier) = Step n sealed before s × Trace before earlier

  -- a run: the state in which each good station is in the end, and those before it. The steps rest on seals that exist,
  -- and a seal of a good station exists only over what it sealed. Nothing is known of the others
  pub record Run (bad : ℕ → Bool) : Type 0 where
    pub last : ℕ → State Request
    pub past : ℕ → List (State Request)
    pub trace : (i : ℕ) → Good n bad i → Trace (last i) (past i)
    pub unforged :
        (i : ℕ) → Good n bad i → (statement : Statement Request) → sealed i statement → Has statement (last i).said

  module _ {bad : ℕ → Bool} (run : Run bad) where
    -- the station was once in this state
    abbrev pub Was : ℕ → State Request → Type 0
    Was i s = Has s (run.last i ∷ run.past i)

    -- the good members of a quorum informed of the request at this view and round
    abbrev pub Chosen : (view round : ℕ) → Request → Type 0
    Chosen view round request =
        (members : ℕ → Bool) × Quorum n members ×
        ((i : ℕ) → Good n bad i → members i ≡ true → Has (Inform view round request) (run.last i).said)
