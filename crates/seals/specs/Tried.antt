-- The seals of a record, in the order in which they are tried: the record's own first, of a Propose then the request's,
-- then by place those of certificates, and in a new view after each view state's certificates that view state's own.
use Rattle.std.specs.Prelude.{ℕ, ◌+◌, ◌-◌, Bool, cond, List, [], ◌∷◌, ◌++◌, length, Some, None, Ok, Err, Option, Result}
use Rattle.records.specs.Lists.{listed}
use Rattle.quorum.specs.declared.refusal.Fault.{Fault}
use Rattle.quorum.specs.declared.refusal.Fault.TheVariants.{NotGenuine}
use Rattle.records.specs.Reading.{certificate_size}
use Rattle.records.specs.Places.{prepared_place, state_seal_place, state_end}
use Rattle.records.specs.Statements.{Statement, prepares, checks, said_bytes, said_by, statement_of}
use Rattle.records.specs.Writing.{sent_by, seal_of, arrival_bytes}
use Rattle.records.specs.declared.request.Request.{Request}
use Rattle.records.specs.declared.request.Proposal.{Proposal}
use Rattle.records.specs.declared.certificate.Certificate.{Certificate}
use Rattle.records.specs.declared.arrivals.Inform.{Inform}
use Rattle.records.specs.declared.arrivals.ViewState.{ViewState}
use Rattle.records.specs.declared.arrivals.Arrival.{Arrival}
use Rattle.records.specs.declared.arrivals.Arrival.TheVariants as arrival
use Rattle.records.specs.declared.arrivals.Record.TheVariants as rec

-- a seal that is tried: who should have sealed which statement, the tag, and where it stands
pub record Tried : Type 0 where
  pub signer : ℕ
  pub said : Statement
  pub tag : ℕ
  pub place : ℕ

abbrev pub tried : ℕ → Statement → ℕ → ℕ → Tried
tried signer said tag place = record { signer = signer; said = said; tag = tag; place = place }

-- the seals of a certificate, from station i on: each covers what `says` makes of its station and the proposal
abbrev pub quorum_seals : (ℕ → Proposal → Statement) → Proposal → ℕ → ℕ → List (Option ℕ) → List Tried
quorum_seals says p i at [] = []
quorum_seals says p i at (None ∷ seals) = quorum_seals says p (i + 1) at seals
quorum_seals says p i at (Some tag ∷ seals) = tried i (says i p) tag at ∷ quorum_seals says p (i + 1) (at + 8) seals

-- the seals of a certificate at a place: a prepared one holds those of Prepares, a commit certificate those of CheckCommits
abbrev pub certificate_seals : (ℕ → Proposal → Statement) → ℕ → Certificate → List Tried
certificate_seals says at c = quorum_seals says c.proposal 0 (at + 40) c.seals

abbrev pub prepared_seals : ℕ → ℕ → List Certificate → List Tried
prepared_seals n at [] = []
prepared_seals n at (c ∷ cs) = certificate_seals prepares at c ++ prepared_seals n (at + certificate_size n) cs

-- the commit certificate behind its count at a place
abbrev pub commit_seals : ℕ → Option Certificate → List Tried
commit_seals at None = []
commit_seals at (Some c) = certificate_seals checks (at + 1) c

-- the certificates' seals of a view state at a place
abbrev pub state_seals : ℕ → ℕ → ViewState → List Tried
state_seals n at s =
    commit_seals (at + 7) s.commit
    ++ prepared_seals n (prepared_place n at s) (listed s.prepared)

-- what a view state's own seal says
abbrev pub state_says : ViewState → Statement
state_says s = said_by (arrival.ViewState s)

-- the view states of a new view, each with its own seal last
abbrev pub states_seals : ℕ → ℕ → List ViewState → List Tried
states_seals n at [] = []
states_seals n at (s ∷ ss) =
    state_seals n at s
    ++ (tried s.sender (state_says s) s.seal (state_seal_place n at s) ∷ states_seals n (state_end n at s) ss)

-- the seal of a request at a place
abbrev pub request_seal : ℕ → Request → Tried
request_seal at r = tried r.client (statement_of (rec.Request r)) r.seal at

-- the own seal of a record stands in its last eight bytes
abbrev pub own_of : Arrival → Tried
own_of a = tried (sent_by a) (said_by a) (seal_of a) (length (arrival_bytes a) - 8)

-- the seals inside a record
abbrev pub inner_of : ℕ → Arrival → List Tried
inner_of n (arrival.Propose p) = request_seal 33 p.proposal.request ∷ []
inner_of n (arrival.Prepare p) = []
inner_of n (arrival.CheckCommit c) = certificate_seals prepares 3 c.prepared
inner_of n (arrival.Failure f) = []
inner_of n (arrival.ViewState s) = state_seals n 0 s
inner_of n (arrival.NewView v) = states_seals n 8 (listed v.states)

-- all seals of a record that arrives at a station of a ring of n
abbrev pub seals_of : ℕ → Arrival → List Tried
seals_of n a = own_of a ∷ inner_of n a

-- of a submitted request its own, and of an inform its own
abbrev pub seals_of_request : Request → List Tried
seals_of_request r = request_seal 24 r ∷ []

abbrev pub seals_of_inform : Inform → List Tried
seals_of_inform i = tried i.sender (statement_of (rec.Inform i)) i.seal 49 ∷ []

-- the first seal that is not genuine is the place of the refusal
abbrev pub first_false : (ℕ → List ℕ → ℕ → Bool) → List Tried → Result (Unit {0}) Fault
first_false genuine [] = Ok tt
first_false genuine (t ∷ ts) =
    cond (genuine t.signer (said_bytes t.said) t.tag) (first_false genuine ts) (Err (NotGenuine t.place))
