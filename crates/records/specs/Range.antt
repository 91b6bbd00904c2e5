-- The fields of a record that lie in range: what may be written, and what reading gives.
use Rattle.std.specs.Prelude.{◌≡◌, ℕ, ◌+◌, ◌^◌, ◌<◌, ◌≤◌, cond, List, [], ◌∷◌, length, is_some, Some, None, Option, slice_index_or}
use Rattle.std.specs.List.{AllByRecursion}
use Rattle.quorum.specs.Figures.{quorum_of}
use Rattle.records.specs.Lists.{listed, filled}
use Rattle.records.specs.Blanks.{blank_certificate, blank_state}
use Rattle.records.specs.Reading.{last_view}
use Rattle.records.specs.declared.few.Few.{Few}
use Rattle.records.specs.declared.request.Request.{Request}
use Rattle.records.specs.declared.request.Proposal.{Proposal}
use Rattle.records.specs.declared.certificate.Certificate.{Certificate}
use Rattle.records.specs.declared.arrivals.Inform.{Inform}
use Rattle.records.specs.declared.arrivals.ViewState.{ViewState}
use Rattle.records.specs.declared.arrivals.NewView.{NewView}
use Rattle.records.specs.declared.arrivals.Arrival.{Arrival}
use Rattle.records.specs.declared.arrivals.Arrival.TheVariants as arrival
use Rattle.records.specs.declared.arrivals.Record.{Record}
use Rattle.records.specs.declared.arrivals.Record.TheVariants as rec

-- a byte, and a number of k bytes
abbrev pub Byte : ℕ → Type 0
Byte b = b < 256

abbrev pub Bytes : List ℕ → Type 0
Bytes bs = AllByRecursion Byte bs

abbrev pub Fits : ℕ → ℕ → Type 0
Fits k n = n < 256 ^ k

pub record RightRequest (r : Request) : Type 0 where
  pub client_low : 1000 ≤ r.client
  pub client_fits : Fits 2 r.client
  pub sequence_low : 1 ≤ r.sequence
  pub sequence_fits : Fits 4 r.sequence
  pub payload_long : length r.payload.bytes ≡ 16
  pub payload_bytes : Bytes r.payload.bytes
  pub seal_fits : Fits 8 r.seal

pub record RightProposal (p : Proposal) : Type 0 where
  pub view_high : p.view ≤ last_view
  pub round_fits : Fits 4 p.round
  pub request_right : RightRequest p.request

-- a seal that is there has eight bytes
abbrev pub RightSeal : Option ℕ → Type 0
RightSeal None = Unit {0}
RightSeal (Some seal) = Fits 8 seal

-- how many seals are there
abbrev pub seals_there : List (Option ℕ) → ℕ
seals_there [] = 0
seals_there (seal ∷ seals) = cond (is_some seal) 1 0 + seals_there seals

-- the seals of exactly a quorum of the stations below n
pub record RightCertificate (n : ℕ) (c : Certificate) : Type 0 where
  pub proposal_right : RightProposal c.proposal
  pub ten : length c.seals ≡ 10
  pub seals_right : AllByRecursion RightSeal c.seals
  pub quorate : seals_there c.seals ≡ quorum_of n
  pub inside : (i : ℕ) → n ≤ i → slice_index_or c.seals i None ≡ None

abbrev pub RightCommit : ℕ → Option Certificate → Type 0
RightCommit n None = Unit {0}
RightCommit n (Some c) = RightCertificate n c

-- a short list that holds its values and then blanks
abbrev pub Packed : {A : Type 0} → A → (size : ℕ) → Few A size → Type 0
Packed blank size few = few ≡ filled blank size (listed few)

pub record RightState (n : ℕ) (s : ViewState) : Type 0 where
  pub sender_fits : Byte s.sender
  pub view_high : s.view ≤ 999999
  pub commit_right : RightCommit n s.commit
  pub prepared_packed : Packed blank_certificate 8 s.prepared
  pub prepared_few : length (listed s.prepared) ≤ 8
  pub prepared_right : AllByRecursion (RightCertificate n) (listed s.prepared)
  pub seal_fits : Fits 8 s.seal

pub record RightNewView (n : ℕ) (v : NewView) : Type 0 where
  pub sender_fits : Byte v.sender
  pub view_low : 1 ≤ v.view
  pub view_high : v.view ≤ last_view
  pub states_packed : Packed blank_state 7 v.states
  pub states_many : length (listed v.states) ≡ quorum_of n
  pub states_right : AllByRecursion (RightState n) (listed v.states)
  pub seal_fits : Fits 8 v.seal

-- a sender, a proposal and a seal
pub record RightClaim (sender : ℕ) (p : Proposal) (seal : ℕ) : Type 0 where
  pub sender_fits : Byte sender
  pub proposal_right : RightProposal p
  pub seal_fits : Fits 8 seal

pub record RightCheckCommit (n sender : ℕ) (c : Certificate) (seal : ℕ) : Type 0 where
  pub sender_fits : Byte sender
  pub prepared_right : RightCertificate n c
  pub seal_fits : Fits 8 seal

pub record RightFailure (sender view seal : ℕ) : Type 0 where
  pub sender_fits : Byte sender
  pub view_high : view ≤ 999999
  pub seal_fits : Fits 8 seal

pub record RightInform (i : Inform) : Type 0 where
  pub claim_right : RightClaim i.sender i.proposal i.seal
  pub result_fits : Fits 8 i.result

abbrev pub RightArrival : ℕ → Arrival → Type 0
RightArrival n (arrival.Propose p) = RightClaim p.sender p.proposal p.seal
RightArrival n (arrival.Prepare p) = RightClaim p.sender p.proposal p.seal
RightArrival n (arrival.CheckCommit c) = RightCheckCommit n c.sender c.prepared c.seal
RightArrival n (arrival.Failure f) = RightFailure f.sender f.view f.seal
RightArrival n (arrival.ViewState s) = RightState n s
RightArrival n (arrival.NewView v) = RightNewView n v

abbrev pub RightRecord : ℕ → Record → Type 0
RightRecord n (rec.Request r) = RightRequest r
RightRecord n (rec.Inform i) = RightInform i
RightRecord n (rec.Arrival a) = RightArrival n a
