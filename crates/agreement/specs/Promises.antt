-- What the protocol promises, for every number of stations, every set of at most f bad ones and every run.
use Rattle.std.specs.Prelude.{◌≡◌, ℕ, zero, suc, ◌<◌, ◌≤◌, Bool, List, [], ◌∷◌, Some, None, Option}
use Rattle.agreement.specs.Certificates.{Prepared, Committed, NewView, Basis}
use Rattle.agreement.specs.Runs.{Good, Run, Was, Chosen}
use Rattle.agreement.specs.States.{State, Log}
use Rattle.agreement.specs.Statements.{Statement, Inform, Has}
use Rattle.quorum.specs.Sets.{Stands}

-- the request of a list at a round; rounds start at 1
abbrev pub at_round : {Request : Type 0} → List Request → ℕ → Option Request
at_round [] round = None
at_round (x ∷ xs) zero = None
at_round (x ∷ xs) (suc zero) = Some x
at_round (x ∷ xs) (suc (suc k)) = at_round xs (suc k)

-- the log has the first `count` lines, and their requests are a beginning of the list
pub record Begins {Request : Type 0} (log : Log Request) (count : ℕ) (list : List Request) : Type 0 where
  pub there : count ≤ log.top
  pub same : (k : ℕ) → 0 < k → k ≤ count → at_round list k ≡ Some (log.line k).request

module _ (Request : Type 0) (sealed : ℕ → Statement Request → Type 0) where
  -- two prepared certificates of one view and round have one request
  abbrev pub PreparedOnce : Type 0
  PreparedOnce =
      (n : ℕ) (bad : ℕ → Bool) → Stands n bad → Run n sealed bad →
      (view round : ℕ) (x y : Request) → Prepared n sealed view round x → Prepared n sealed view round y → x ≡ y

  -- from this view on, the round has no other request: not in a prepared certificate, and a ledger that covers the
  -- round has this one
  pub record Fixed (n view round : ℕ) (request : Request) : Type 0 where
    pub prepared : (later : ℕ) (y : Request) → view ≤ later → Prepared n sealed later round y → y ≡ request
    pub ledgers :
        (x : ℕ) (new : NewView n sealed x) (base : ℕ) (ledger : ℕ → Option Request) → view ≤ x →
        Basis n sealed new base ledger → base < round → ledger round ≡ Some request

  -- a chosen request is fixed, and so is the request below it that those who informed of it have in their logs, from then on
  abbrev pub ChosenFixed : Type 0
  ChosenFixed =
      (n : ℕ) (bad : ℕ → Bool) → Stands n bad → (run : Run n sealed bad) →
      (view round : ℕ) (request : Request) → Chosen n sealed run view round request →
      Fixed n view round request ×
      ((k : ℕ) → 0 < k → k < round →
      (y : Request) × Fixed n view k y ×
      ((i : ℕ) (s : State Request) → Good n bad i → Was n sealed run i s →
      Has (Inform view round request) s.said → (k ≤ s.log.top) × ((s.log.line k).request ≡ y)))

  -- committed logs of good stations agree, at all times; chosen requests agree with them and with each other
  pub record Agree (n : ℕ) (bad : ℕ → Bool) (run : Run n sealed bad) : Type 0 where
    pub logs :
        (i j : ℕ) (s t : State Request) → Good n bad i → Good n bad j → Was n sealed run i s → Was n sealed run j t →
        (round : ℕ) → 0 < round → round ≤ s.log.commit → round ≤ t.log.commit →
        (s.log.line round).request ≡ (t.log.line round).request
    pub chosen_logs :
        (i : ℕ) (s : State Request) → Good n bad i → Was n sealed run i s →
        (view round : ℕ) (request : Request) → Chosen n sealed run view round request → round ≤ s.log.commit →
        (s.log.line round).request ≡ request
    pub chosen :
        (v w round : ℕ) (x y : Request) → Chosen n sealed run v round x → Chosen n sealed run w round y → x ≡ y

  abbrev pub LogsAgree : Type 0
  LogsAgree = (n : ℕ) (bad : ℕ → Bool) → Stands n bad → (run : Run n sealed bad) → Agree n bad run

  -- the list holds the run together: committed logs are beginnings of it at all times; it has at its round the request of every
  -- chosen one, and up to that round the lines that the good members held as they informed, and ever after;
  -- and it has the request of every commit certificate
  pub record Holds (n : ℕ) (bad : ℕ → Bool) (run : Run n sealed bad) (list : List Request) : Type 0 where
    pub committed :
        (i : ℕ) (s : State Request) → Good n bad i → Was n sealed run i s → Begins s.log s.log.commit list
    pub chosen :
        (view round : ℕ) (request : Request) → Chosen n sealed run view round request →
        at_round list round ≡ Some request
    pub held :
        (view round : ℕ) (request : Request) → Chosen n sealed run view round request →
        (i : ℕ) (s : State Request) → Good n bad i → Was n sealed run i s →
        Has (Inform view round request) s.said → Begins s.log round list
    pub certified :
        (view round : ℕ) (request : Request) → Committed n sealed view round request →
        at_round list round ≡ Some request

  -- for any run there is one list that holds it together, if the equality of requests can be decided
  abbrev pub OneList : Type 0
  OneList =
      (n : ℕ) (bad : ℕ → Bool) → Stands n bad → (run : Run n sealed bad) → (list : List Request) × Holds n bad run list
