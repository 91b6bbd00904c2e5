-- What a replica holds, as far as safety is concerned.
use Rattle.std.specs.Prelude.{◌≡◌, ℕ, ◌+◌, ◌<◌, ◌≤◌, max, ◌⊎◌, List, [], ◌∷◌, None, Option, ◌≢◌}
use Rattle.agreement.specs.Statements.{Statement}

-- a line: its request, and the view of the prepared certificate with which it was last executed
pub record Line (Request : Type 0) : Type 0 where
  pub view : ℕ
  pub request : Request

-- the log: lines 1 to top, of which 1 to commit are committed. What `line` gives at other rounds means nothing
pub record Log (Request : Type 0) : Type 0 where
  pub line : ℕ → Line Request
  pub top : ℕ
  pub commit : ℕ

-- a replica. Its view is the one that it entered last; it has left the views below `left`, for good.
-- base and ledger are those of the new view by which it entered; it has sealed what stands in `said`, the latest first
pub record State (Request : Type 0) : Type 0 where
  pub view : ℕ
  pub left : ℕ
  pub base : ℕ
  pub ledger : ℕ → Option Request
  pub log : Log Request
  pub said : List (Statement Request)

-- nothing has happened to it
pub record New {Request : Type 0} (s : State Request) : Type 0 where
  pub first_view : s.view ≡ 0
  pub none_left : s.left ≡ 0
  pub no_base : s.base ≡ 0
  pub no_ledger : (round : ℕ) → s.ledger round ≡ None
  pub no_line : s.log.top ≡ 0
  pub no_commit : s.log.commit ≡ 0
  pub nothing_said : s.said ≡ []

-- it may act in its view: it has not left it
abbrev pub Open : {Request : Type 0} → State Request → Type 0
Open s = s.left ≤ s.view

-- the replica, having sealed one statement more
abbrev pub says : {Request : Type 0} → Statement Request → State Request → State Request
says statement s =
    record
    { view = s.view; left = s.left; base = s.base; ledger = s.ledger; log = s.log; said = statement ∷ s.said }

-- the replica with another log
abbrev pub logs : {Request : Type 0} → Log Request → State Request → State Request
logs log s =
    record { view = s.view; left = s.left; base = s.base; ledger = s.ledger; log = log; said = s.said }

-- the replica, having left the views up to x
abbrev pub without : {Request : Type 0} → ℕ → State Request → State Request
without x s =
    record
    { view = s.view; left = max s.left (x + 1); base = s.base; ledger = s.ledger; log = s.log; said = s.said }

-- the replica in another view, with that view's base and ledger
abbrev pub entering : {Request : Type 0} → ℕ → ℕ → (ℕ → Option Request) → State Request → State Request
entering view base ledger s =
    record { view = view; left = s.left; base = base; ledger = ledger; log = s.log; said = s.said }

-- the new log has the request at the round, and the old lines below it.
-- An equal line was there, and the lines above it stay; or none or another was, and the lines from there on are undone
pub record Puts {Request : Type 0} (old new : Log Request) (round : ℕ) (request : Request) : Type 0 where
  pub here : (new.line round).request ≡ request
  pub below : (k : ℕ) → 0 < k → k < round → new.line k ≡ old.line k
  pub above :
      ((round ≤ old.top) × ((old.line round).request ≡ request) × (new.top ≡ old.top) ×
      ((k : ℕ) → round < k → k ≤ old.top → new.line k ≡ old.line k)) ⊎
      ((round ≤ old.top → (old.line round).request ≢ request) × (new.top ≡ round))

-- the new log is the old one without the lines above the round
pub record Cuts {Request : Type 0} (old new : Log Request) (round : ℕ) : Type 0 where
  pub below : (k : ℕ) → 0 < k → k ≤ round → new.line k ≡ old.line k
  pub ends : new.top ≡ round
  pub commit : new.commit ≡ old.commit
