-- What a seal says: the kind of its record, and the fields that it covers.
use Rattle.std.specs.Prelude.{◌≡◌, ℕ, ◌≤◌, List, [], ◌++◌, length, Option}
use Rattle.std.specs.List.{AllByRecursion}
use Rattle.quorum.specs.Figures.{quorum_of}
use Rattle.records.specs.Lists.{listed}
use Rattle.records.specs.Numbers.{put}
use Rattle.records.specs.Range.{Byte, Bytes, Fits, RightProposal, RightCertificate, RightCommit, RightState}
use Rattle.records.specs.Writing.{mark_bytes, head_bytes, claim_bytes, commit_bytes, prepared_bytes, seals_bytes, states_bytes, seal_of}
use Rattle.records.specs.declared.marks.Mark.TheVariants as mark
use Rattle.records.specs.declared.request.Proposal.{Proposal}
use Rattle.records.specs.declared.certificate.Certificate.{Certificate}
use Rattle.records.specs.declared.arrivals.ViewState.{ViewState}
use Rattle.records.specs.declared.arrivals.Arrival.{Arrival}
use Rattle.records.specs.declared.arrivals.Arrival.TheVariants as arrival
use Rattle.records.specs.declared.arrivals.Record.{Record}
use Rattle.records.specs.declared.arrivals.Record.TheVariants as rec

pub data Statement : Type 0 where
  -- a client asks: its number, its sequence, the payload
  asks : ℕ → ℕ → List ℕ → Statement
  -- a station proposes, supports, or has executed a proposal
  proposes : ℕ → Proposal → Statement
  prepares : ℕ → Proposal → Statement
  checks : ℕ → Proposal → Statement
  -- a station tells a client the result of a proposal
  informs : ℕ → Proposal → ℕ → Statement
  -- a station alerts that a view fails
  alerts : ℕ → ℕ → Statement
  -- a station leaves a view with its last commit and the prepared certificates above it
  leaves : ℕ → ℕ → Option Certificate → List Certificate → Statement
  -- a primary begins a view from view states
  begins : ℕ → ℕ → List ViewState → Statement

-- what the own seal of a record says; of a CheckCommit it covers the proposal and not the certificate's seals
abbrev pub said_by : Arrival → Statement
said_by (arrival.Propose p) = proposes p.sender p.proposal
said_by (arrival.Prepare p) = prepares p.sender p.proposal
said_by (arrival.CheckCommit c) = checks c.sender c.prepared.proposal
said_by (arrival.Failure f) = alerts f.sender f.view
said_by (arrival.ViewState s) = leaves s.sender s.view s.commit (listed s.prepared)
said_by (arrival.NewView v) = begins v.sender v.view (listed v.states)

abbrev pub statement_of : Record → Statement
statement_of (rec.Request r) = asks r.client r.sequence r.payload.bytes
statement_of (rec.Inform i) = informs i.sender i.proposal i.result
statement_of (rec.Arrival a) = said_by a

-- a statement as the bytes that a seal covers
unfoldable pub said_bytes : Statement → List ℕ
said_bytes (asks client sequence payload) = mark_bytes mark.Request ++ (put 2 client ++ (put 4 sequence ++ payload))
said_bytes (proposes i p) = claim_bytes mark.Propose i p
said_bytes (prepares i p) = claim_bytes mark.Prepare i p
said_bytes (checks i p) = claim_bytes mark.CheckCommit i p
said_bytes (informs i p result) = claim_bytes mark.Inform i p ++ put 8 result
said_bytes (alerts i view) = head_bytes mark.Failure i ++ put 4 view
said_bytes (leaves i view commit cs) =
    head_bytes mark.ViewState i ++ (put 4 view ++ (commit_bytes commit ++ prepared_bytes cs))
said_bytes (begins i view ss) = head_bytes mark.NewView i ++ (put 4 view ++ states_bytes ss)

-- the bytes that a record's own seal covers
abbrev pub covered : Record → List ℕ
covered r = said_bytes (statement_of r)

-- what stands between the covered bytes and the seal: only a CheckCommit has something there
unfoldable pub rest_of : Arrival → List ℕ
rest_of (arrival.Propose p) = []
rest_of (arrival.Prepare p) = []
rest_of (arrival.CheckCommit c) = seals_bytes c.prepared.seals
rest_of (arrival.Failure f) = []
rest_of (arrival.ViewState s) = []
rest_of (arrival.NewView v) = []

unfoldable pub rest_bytes : Record → List ℕ
rest_bytes (rec.Request r) = []
rest_bytes (rec.Inform i) = []
rest_bytes (rec.Arrival a) = rest_of a

-- the own seal of a record
abbrev pub own_seal : Record → ℕ
own_seal (rec.Request r) = r.seal
own_seal (rec.Inform i) = i.seal
own_seal (rec.Arrival a) = seal_of a

-- a record under another seal
abbrev pub resealed : Arrival → ℕ → Arrival
resealed (arrival.Propose p) seal = arrival.Propose (record { sender = p.sender; proposal = p.proposal; seal = seal })
resealed (arrival.Prepare p) seal = arrival.Prepare (record { sender = p.sender; proposal = p.proposal; seal = seal })
resealed (arrival.CheckCommit c) seal =
    arrival.CheckCommit (record { sender = c.sender; prepared = c.prepared; seal = seal })
resealed (arrival.Failure f) seal = arrival.Failure (record { sender = f.sender; view = f.view; seal = seal })
resealed (arrival.ViewState s) seal =
    arrival.ViewState
    (record { sender = s.sender; view = s.view; commit = s.commit; prepared = s.prepared; seal = seal })
resealed (arrival.NewView v) seal =
    arrival.NewView (record { sender = v.sender; view = v.view; states = v.states; seal = seal })

abbrev pub under_seal : Record → ℕ → Record
under_seal (rec.Request r) seal =
    rec.Request (record { client = r.client; sequence = r.sequence; payload = r.payload; seal = seal })
under_seal (rec.Inform i) seal =
    rec.Inform (record { sender = i.sender; proposal = i.proposal; result = i.result; seal = seal })
under_seal (rec.Arrival a) seal = rec.Arrival (resealed a seal)

-- a statement whose fields lie in range, in a ring of n
abbrev pub RightStatement : ℕ → Statement → Type 0
RightStatement n (asks client sequence payload) =
    Fits 2 client × (Fits 4 sequence × ((length payload ≡ 16) × Bytes payload))
RightStatement n (proposes i p) = Byte i × RightProposal p
RightStatement n (prepares i p) = Byte i × RightProposal p
RightStatement n (checks i p) = Byte i × RightProposal p
RightStatement n (informs i p result) = Byte i × (RightProposal p × Fits 8 result)
RightStatement n (alerts i view) = Byte i × Fits 4 view
RightStatement n (leaves i view commit cs) =
    Byte i × (Fits 4 view × (RightCommit n commit × ((length cs ≤ 8) × AllByRecursion (RightCertificate n) cs)))
RightStatement n (begins i view ss) =
    Byte i × (Fits 4 view × ((length ss ≡ quorum_of n) × AllByRecursion (RightState n) ss))
