-- What seals of a quorum prove: certificates, and new views with their base and ledger.
-- `sealed i s` says that a seal of station i over the statement s exists.
use Rattle.std.specs.Prelude.{◌≡◌, ℕ, ◌<◌, ◌≤◌, Bool, true, ◌⊎◌, Some, None, Option, ◌≢◌}
use Rattle.agreement.specs.Statements.{Proposal, Report, Statement, Prepare, CheckCommit, ViewState, Has}
use Rattle.quorum.specs.Sets.{Quorum}

-- the round of a listed commit, 0 without one
abbrev pub commit_round : {Request : Type 0} → Option (Proposal Request) → ℕ
commit_round None = 0
commit_round (Some p) = p.round

module _ {Request : Type 0} (n : ℕ) (sealed : ℕ → Statement Request → Type 0) where
  -- a quorum sealed the statement
  abbrev pub Certified : Statement Request → Type 0
  Certified statement =
      (signers : ℕ → Bool) × Quorum n signers × ((i : ℕ) → i < n → signers i ≡ true → sealed i statement)

  -- a prepared certificate, and a commit certificate
  abbrev pub Prepared : (view round : ℕ) → Request → Type 0
  Prepared view round request = Certified (Prepare view round request)

  abbrev pub Committed : (view round : ℕ) → Request → Type 0
  Committed view round request = Certified (CheckCommit view round request)

  -- what the report of a view state of view x lists has certificates, of views up to x
  pub record Proven (x : ℕ) (report : Report Request) : Type 0 where
    pub commit :
        (p : Proposal Request) → report.commit ≡ Some p → (p.view ≤ x) × Committed p.view p.round p.request
    pub lines :
        (p : Proposal Request) → Has p report.lines → (p.view ≤ x) × Prepared p.view p.round p.request

  -- a new view of view x + 1: proven view states of view x, from a quorum.
  -- Nothing says that there is one only: a bad primary may send several
  pub record NewView (x : ℕ) : Type 0 where
    pub senders : ℕ → Bool
    pub enough : Quorum n senders
    pub report : ℕ → Report Request
    pub genuine : (i : ℕ) → i < n → senders i ≡ true → sealed i (ViewState x (report i))
    pub proven : (i : ℕ) → i < n → senders i ≡ true → Proven x (report i)

  -- the new view lists the line
  abbrev pub Lists : {x : ℕ} → NewView x → Proposal Request → Type 0
  Lists new p = (i : ℕ) × (i < n) × (new.senders i ≡ true) × Has p (new.report i).lines

  -- the highest commit that the new view lists, 0 if it lists none
  pub record IsBase {x : ℕ} (new : NewView x) (base : ℕ) : Type 0 where
    pub highest : (i : ℕ) → i < n → new.senders i ≡ true → commit_round (new.report i).commit ≤ base
    pub listed :
        (base ≡ 0) ⊎ ((i : ℕ) × (i < n) × (new.senders i ≡ true) × (commit_round (new.report i).commit ≡ base))

  -- what the ledger has at a round: the request of a listed line of highest view, nothing if no line is listed there
  abbrev pub LedgerAt : {x : ℕ} → NewView x → ℕ → Option Request → Type 0
  LedgerAt new round None = (p : Proposal Request) → Lists new p → p.round ≢ round
  LedgerAt new round (Some request) =
      (p : Proposal Request) × Lists new p × (p.round ≡ round) × (p.request ≡ request) ×
      ((other : Proposal Request) → Lists new other → other.round ≡ round → other.view ≤ p.view)

  -- base and ledger of the new view
  pub record Basis {x : ℕ} (new : NewView x) (base : ℕ) (ledger : ℕ → Option Request) : Type 0 where
    pub is_base : IsBase new base
    pub is_ledger : (round : ℕ) → base < round → LedgerAt new round (ledger round)
