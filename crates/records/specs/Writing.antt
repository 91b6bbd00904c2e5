-- What each record is as bytes, and which of its bytes its own seal covers.
use Rattle.std.specs.Prelude.{ℕ, List, [], ◌++◌, length, Some, None, Option}
use Rattle.std.specs.List.{flat_map}
use Rattle.records.specs.Numbers.{put, mask_of}
use Rattle.records.specs.Lists.{listed}
use Rattle.records.specs.Marks.{letters}
use Rattle.records.specs.declared.marks.Mark.{Mark}
use Rattle.records.specs.declared.marks.Mark.TheVariants as mark
use Rattle.records.specs.declared.request.Request.{Request}
use Rattle.records.specs.declared.request.Proposal.{Proposal}
use Rattle.records.specs.declared.certificate.Certificate.{Certificate}
use Rattle.records.specs.declared.arrivals.CheckCommit.{CheckCommit}
use Rattle.records.specs.declared.arrivals.Inform.{Inform}
use Rattle.records.specs.declared.arrivals.Failure.{Failure}
use Rattle.records.specs.declared.arrivals.ViewState.{ViewState}
use Rattle.records.specs.declared.arrivals.NewView.{NewView}
use Rattle.records.specs.declared.arrivals.Arrival.{Arrival}
use Rattle.records.specs.declared.arrivals.Arrival.TheVariants as arrival
use Rattle.records.specs.declared.arrivals.Record.{Record}
use Rattle.records.specs.declared.arrivals.Record.TheVariants as rec

-- a record's mark, and a mark with the sender after it
unfoldable pub mark_bytes : Mark → List ℕ
mark_bytes m = put 2 (letters m)

unfoldable pub head_bytes : Mark → ℕ → List ℕ
head_bytes m sender = mark_bytes m ++ put 1 sender

-- what a client's seal covers, after the mark
unfoldable pub asked_bytes : Request → List ℕ
asked_bytes r = put 2 r.client ++ (put 4 r.sequence ++ r.payload.bytes)

unfoldable pub request_bytes : Request → List ℕ
request_bytes r = asked_bytes r ++ put 8 r.seal

unfoldable pub proposal_bytes : Proposal → List ℕ
proposal_bytes p = put 4 p.view ++ (put 4 p.round ++ request_bytes p.request)

-- the seal of one station in a certificate: nothing where it has none
unfoldable pub seal_bytes : Option ℕ → List ℕ
seal_bytes None = []
seal_bytes (Some seal) = put 8 seal

-- the mask, and the seals by rising station
unfoldable pub seals_bytes : List (Option ℕ) → List ℕ
seals_bytes seals = put 2 (mask_of seals) ++ flat_map seal_bytes seals

unfoldable pub certificate_bytes : Certificate → List ℕ
certificate_bytes c = proposal_bytes c.proposal ++ seals_bytes c.seals

-- none or one commit certificate, after its count
unfoldable pub commit_bytes : Option Certificate → List ℕ
commit_bytes None = put 1 0
commit_bytes (Some c) = put 1 1 ++ certificate_bytes c

-- prepared certificates, after their count
unfoldable pub prepared_bytes : List Certificate → List ℕ
prepared_bytes cs = put 1 (length cs) ++ flat_map certificate_bytes cs

-- what a view state's seal covers, and the whole of it
unfoldable pub state_body : ViewState → List ℕ
state_body s =
    head_bytes mark.ViewState s.sender
    ++ (put 4 s.view ++ (commit_bytes s.commit ++ prepared_bytes (listed s.prepared)))

unfoldable pub state_bytes : ViewState → List ℕ
state_bytes s = state_body s ++ put 8 s.seal

-- a statement about a proposal: what the seal of a Propose, a Prepare or a CheckCommit covers
unfoldable pub claim_bytes : Mark → ℕ → Proposal → List ℕ
claim_bytes m sender p = head_bytes m sender ++ proposal_bytes p

-- view states, after their count
unfoldable pub states_bytes : List ViewState → List ℕ
states_bytes ss = put 1 (length ss) ++ flat_map state_bytes ss

unfoldable pub new_view_body : NewView → List ℕ
new_view_body v = head_bytes mark.NewView v.sender ++ (put 4 v.view ++ states_bytes (listed v.states))

-- a check commit is a claim with the seals of its certificate
unfoldable pub check_commit_body : CheckCommit → List ℕ
check_commit_body c =
    claim_bytes mark.CheckCommit c.sender c.prepared.proposal ++ seals_bytes c.prepared.seals

unfoldable pub failure_body : Failure → List ℕ
failure_body f = head_bytes mark.Failure f.sender ++ put 4 f.view

-- a record without its own seal, which comes last
unfoldable pub body_bytes : Arrival → List ℕ
body_bytes (arrival.Propose p) = claim_bytes mark.Propose p.sender p.proposal
body_bytes (arrival.Prepare p) = claim_bytes mark.Prepare p.sender p.proposal
body_bytes (arrival.CheckCommit c) = check_commit_body c
body_bytes (arrival.Failure f) = failure_body f
body_bytes (arrival.ViewState s) = state_body s
body_bytes (arrival.NewView v) = new_view_body v

-- the station that sent a record
abbrev pub sent_by : Arrival → ℕ
sent_by (arrival.Propose p) = p.sender
sent_by (arrival.Prepare p) = p.sender
sent_by (arrival.CheckCommit c) = c.sender
sent_by (arrival.Failure f) = f.sender
sent_by (arrival.ViewState s) = s.sender
sent_by (arrival.NewView v) = v.sender

-- the seal of a record
abbrev pub seal_of : Arrival → ℕ
seal_of (arrival.Propose p) = p.seal
seal_of (arrival.Prepare p) = p.seal
seal_of (arrival.CheckCommit c) = c.seal
seal_of (arrival.Failure f) = f.seal
seal_of (arrival.ViewState s) = s.seal
seal_of (arrival.NewView v) = v.seal

unfoldable pub inform_body : Inform → List ℕ
inform_body i = claim_bytes mark.Inform i.sender i.proposal ++ put 8 i.result

unfoldable pub arrival_bytes : Arrival → List ℕ
arrival_bytes a = body_bytes a ++ put 8 (seal_of a)

unfoldable pub record_bytes : Record → List ℕ
record_bytes (rec.Request r) = mark_bytes mark.Request ++ request_bytes r
record_bytes (rec.Inform i) = inform_body i ++ put 8 i.seal
record_bytes (rec.Arrival a) = arrival_bytes a
