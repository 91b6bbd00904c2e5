-- A proof of execution: informs of a quorum of different stations, each genuine, that say the same of a request.
use Rattle.std.specs.Prelude.{◌≡◌, ℕ, suc, ◌<◌, ◌≤◌, Bool, true, List, [], ◌∷◌, length, Some, None, Option}
use Rattle.quorum.specs.Figures.{quorum_of}
use Rattle.records.specs.Statements.{covered}
use Rattle.records.specs.declared.request.Request.{Request}
use Rattle.records.specs.declared.arrivals.Inform.{Inform}
use Rattle.records.specs.declared.arrivals.Record.TheVariants as rec
use Rattle.informs.specs.declared.agreed.Release.{Release}

-- whether a tag is a signer's genuine seal of a statement
abbrev pub Seals : Type 0
Seals = ℕ → List ℕ → ℕ → Bool

-- the seal of an inform is its sender's, over what the seal covers
abbrev pub Genuine : Seals → Inform → Type 0
Genuine genuine i = genuine i.sender (covered (rec.Inform i)) i.seal ≡ true

-- an inform tells of this request that it stands there with that result
pub record Tells (asked : Request) (release : Release) (i : Inform) : Type 0 where
  pub view : i.proposal.view ≡ release.view
  pub round : i.proposal.round ≡ release.round
  pub result : i.result ≡ release.result
  pub request : i.proposal.request ≡ asked

-- informs from different stations: the senders rise from k on and stay below n
abbrev pub Rising : ℕ → ℕ → List Inform → Type 0
Rising n k [] = Unit {0}
Rising n k (i ∷ is) = (k ≤ i.sender) × ((i.sender < n) × Rising n (suc i.sender) is)

abbrev pub Every : (Inform → Type 0) → List Inform → Type 0
Every P [] = Unit {0}
Every P (i ∷ is) = P i × Every P is

pub record ProofOfExecution (genuine : Seals) (n : ℕ) (request : Request) (release : Release) : Type 0 where
  pub informs : List Inform
  pub enough : quorum_of n ≤ length informs
  pub different : Rising n 0 informs
  pub sealed : Every (Genuine genuine) informs
  pub agree : Every (Tells request release) informs

-- every inform that a row holds is genuine and about the request
abbrev pub Sound : Seals → Request → List (Option Inform) → Type 0
Sound genuine request [] = Unit {0}
Sound genuine request (None ∷ heard) = Sound genuine request heard
Sound genuine request (Some i ∷ heard) =
    Genuine genuine i × ((i.proposal.request ≡ request) × Sound genuine request heard)
