-- The steps are not empty: two runs of a ring of four, whose requests are numbers and whose station 3 is bad.
use Rattle.std.specs.Prelude.{◌≡◌, ℕ, Bool, List, ◌==◌}
use Rattle.agreement.specs.Runs.{Good, Run, Was, Chosen}
use Rattle.agreement.specs.States.{State}
use Rattle.agreement.specs.Statements.{Statement, Has}
use Rattle.quorum.specs.Sets.{Stands}

-- station 3 is bad
abbrev pub third : ℕ → Bool
third i = i == 3

-- the seals that exist, given as a list for each station
abbrev pub within : (ℕ → List (Statement ℕ)) → ℕ → Statement ℕ → Type 0
within seals i statement = Has statement (seals i)

-- there is a run in which the request 7 is chosen at round 1 of view 0, and every good station commits it there
abbrev pub SampleCommit : Type 0
SampleCommit =
    Stands 4 third ×
    ((seals : ℕ → List (Statement ℕ)) × (run : Run 4 (within seals) third) ×
    Chosen 4 (within seals) run 0 1 7 ×
    ((i : ℕ) → Good 4 third i → ((run.last i).log.commit ≡ 1) × (((run.last i).log.line 1).request ≡ 7)))

-- there is a run in which 7 is chosen at round 1 of view 0, and station 0 executes 8 at round 2; entering view 1 it undoes
-- that line, and keeps the chosen one
abbrev pub SampleChange : Type 0
SampleChange =
    Stands 4 third ×
    ((seals : ℕ → List (Statement ℕ)) × (run : Run 4 (within seals) third) ×
    Chosen 4 (within seals) run 0 1 7 ×
    ((s : State ℕ) × Was 4 (within seals) run 0 s × (s.view ≡ 0) × (s.log.top ≡ 2) ×
    ((s.log.line 2).request ≡ 8)) ×
    ((run.last 0).view ≡ 1) × ((run.last 0).log.top ≡ 1) × (((run.last 0).log.line 1).request ≡ 7))
