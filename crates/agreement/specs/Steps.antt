-- What a good replica does, step by step: how the state s before a step and the state t after it are related,
-- and which seals must exist for it. A call of a replica is a sequence of such steps.
use Rattle.std.specs.Prelude.{◌≡◌, ℕ, ◌+◌, ◌<◌, ◌≤◌, Some, Option}
use Rattle.agreement.specs.Certificates.{commit_round, Prepared, Committed, NewView, Basis}
use Rattle.agreement.specs.States.{Log, State, Open, says, logs, without, entering, Puts, Cuts}
use Rattle.agreement.specs.Statements.{Report, Statement, Prepare, Inform, CheckCommit, ViewState, Has}

-- It prepares a request at a round of its view, above its base: one request per view and round, in any order of rounds,
-- and the ledger's request where the ledger has one.
pub record Prepares {Request : Type 0} (s t : State Request) : Type 0 where
  pub round : ℕ
  pub request : Request
  pub is_open : Open s
  pub above_base : s.base < round
  pub by_ledger : (other : Request) → s.ledger round ≡ Some other → other ≡ request
  pub once : (other : Request) → Has (Prepare s.view round other) s.said → other ≡ request
  pub after : t ≡ says (Prepare s.view round request) s

-- It seals a CheckCommit for a round that it executed in its view, at most one above its commit.
pub record Checks {Request : Type 0} (s t : State Request) : Type 0 where
  pub round : ℕ
  pub request : Request
  pub is_open : Open s
  pub executed : Has (Inform s.view round request) s.said
  pub in_turn : round ≤ s.log.commit + 1
  pub after : t ≡ says (CheckCommit s.view round request) s

-- It leaves its view and all up to x. Its view state lists its last commit and its lines above it, each with
-- the view of its certificate.
pub record Leaves {Request : Type 0} (s t : State Request) : Type 0 where
  pub x : ℕ
  pub report : Report Request
  pub not_below : s.view ≤ x
  pub last_commit : commit_round report.commit ≡ s.log.commit
  pub lines_above :
      (round : ℕ) → s.log.commit < round → round ≤ s.log.top →
      Has
      (record { view = (s.log.line round).view; round = round; request = (s.log.line round).request })
      report.lines
  pub after : t ≡ says (ViewState x report) (without x s)

-- It undoes the lines above a round: the first of them is above its base and its commit, is not of its view,
-- and the ledger lacks it or contradicts it.
pub record Undoes {Request : Type 0} (s t : State Request) : Type 0 where
  pub kept : ℕ
  pub there : kept + 1 ≤ s.log.top
  pub above_base : s.base < kept + 1
  pub above_commit : s.log.commit < kept + 1
  pub not_of_view : (s.log.line (kept + 1)).view < s.view
  pub not_in_ledger : s.ledger (kept + 1) ≡ Some (s.log.line (kept + 1)).request → ⊥
  pub log : Log Request
  pub cuts : Cuts s.log log kept
  pub after : t ≡ logs log s

module _ {Request : Type 0} (n : ℕ) (sealed : ℕ → Statement Request → Type 0) where
  -- It executes a round of its view above its commit: prepared in this view, and every round above its commit and below it
  -- is executed in this view. A line with another request is undone first, with all above it; an equal one takes
  -- the new certificate. It seals an Inform.
  pub record Executes (s t : State Request) : Type 0 where
    pub round : ℕ
    pub request : Request
    pub is_open : Open s
    pub above_commit : s.log.commit < round
    pub prepared : Prepared n sealed s.view round request
    pub in_turn :
        (k : ℕ) → s.log.commit < k → k < round → (k ≤ s.log.top) × ((s.log.line k).view ≡ s.view)
    pub log : Log Request
    pub puts : Puts s.log log round request
    pub of_view : (log.line round).view ≡ s.view
    pub same_commit : log.commit ≡ s.log.commit
    pub after : t ≡ says (Inform s.view round request) (logs log s)

  -- It informs of a committed round again: prepared in its view, with the very request of its log.
  pub record InformsAgain (s t : State Request) : Type 0 where
    pub round : ℕ
    pub is_open : Open s
    pub from_one : 0 < round
    pub committed : round ≤ s.log.commit
    pub prepared : Prepared n sealed s.view round (s.log.line round).request
    pub after : t ≡ says (Inform s.view round (s.log.line round).request) s

  -- It commits the round above its commit by a commit certificate, open or not. The certificate may be of any view up to the
  -- one that it last entered: of its own view, or an older one that a new view or another replica brings.
  -- A line with another request is undone first, with all above it; a missing one is applied.
  pub record Commits (s t : State Request) : Type 0 where
    pub view : ℕ
    pub request : Request
    pub certified : Committed n sealed view (s.log.commit + 1) request
    pub known_view : view ≤ s.view
    pub log : Log Request
    pub puts : Puts s.log log (s.log.commit + 1) request
    pub one_more : log.commit ≡ s.log.commit + 1
    pub after : t ≡ logs log s

  -- It enters a view above its own and above those that it left, by a new view, whose base and ledger become its own.
  -- It need not have left its former view. Its log stays: commits that the new view certifies are steps of their own,
  -- and so is the undoing of what the ledger lacks. Its commit may stay below the base.
  pub record Enters (s t : State Request) : Type 0 where
    pub x : ℕ
    pub new : NewView n sealed x
    pub base : ℕ
    pub ledger : ℕ → Option Request
    pub basis : Basis n sealed new base ledger
    pub above_view : s.view < x + 1
    pub above_left : s.left ≤ x + 1
    pub after : t ≡ entering (x + 1) base ledger s

  -- one step
  pub data Step (s t : State Request) : Type 0 where
    prepares : Prepares s t → Step s t
    executes : Executes s t → Step s t
    informs_again : InformsAgain s t → Step s t
    checks : Checks s t → Step s t
    commits : Commits s t → Step s t
    leaves : Leaves s t → Step s t
    enters : Enters s t → Step s t
    undoes : Undoes s t → Step s t
