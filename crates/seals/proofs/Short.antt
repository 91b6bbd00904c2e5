-- What the seals of records in range cover is no longer than the longest statement. Assumes nothing.
use Rattle.std.proofs.Common.{ℕ, ◌+◌, ◌≤◌, ◌++◌, length, ap, arith, length-append}
use Rattle.quorum.specs.Limits.{longest_statement}
use Rattle.records.specs.Numbers.{put}
use Rattle.records.specs.Range.{RightRequest, RightProposal, RightState, RightArrival}
use Rattle.records.specs.Statements.{said_bytes, said_by, statement_of, covered, rest_bytes, own_seal}
use Rattle.records.specs.Said.{says}
use Rattle.records.specs.Writing.{record_bytes, arrival_bytes, body_bytes, state_bytes, head_bytes}
use Rattle.records.specs.declared.marks.Mark.TheVariants as mark
use Rattle.records.specs.declared.request.Request.{Request}
use Rattle.records.specs.declared.request.Proposal.{Proposal}
use Rattle.records.specs.declared.statement.Support.{Support}
use Rattle.records.specs.declared.statement.Support.TheVariants as support
use Rattle.records.specs.declared.arrivals.ViewState.{ViewState}
use Rattle.records.specs.declared.arrivals.Arrival.{Arrival}
use Rattle.records.specs.declared.arrivals.Arrival.TheVariants as arrival
use Rattle.records.specs.declared.arrivals.Record.{Record}
use Rattle.records.specs.declared.arrivals.Record.TheVariants as rec
use Rattle.records.proofs.Covered.{split_own}
use Rattle.codec.proofs.Numbers.{put_length}
use Rattle.codec.proofs.Records.{claim_length}
use Rattle.codec.proofs.States.{head_length}
use Rattle.codec.proofs.Figures.{state_most}
use Rattle.codec.proofs.Laws.{view_most, covered_length}
use Rattle.seals.specs.Tried.{state_says}

-- a record without its seal is eight bytes shorter
less_seal : (r : Record) (k : ℕ) → length (record_bytes r) ≤ k + 8 → length (covered r) ≤ k
less_seal r k h =
    let e = ap length (split_own r) in
    let a = length-append (covered r) (rest_bytes r ++ put 8 (own_seal r)) in
    let b = length-append (rest_bytes r) (put 8 (own_seal r)) in
    let c = put_length 8 (own_seal r) in
    omega arith

pub claim_short : (s : Support) (i : ℕ) (p : Proposal) → RightProposal p → length (said_bytes (says s i p)) ≤ longest_statement
unfolding said_bytes
claim_short support.Prepared i p r = let l = claim_length mark.Prepare i p r in omega arith
claim_short support.Committed i p r = let l = claim_length mark.CheckCommit i p r in omega arith

pub state_short : (n : ℕ) → n ≤ 10 → (s : ViewState) → RightState n s → length (said_bytes (state_says s)) ≤ longest_statement
unfolding record_bytes arrival_bytes body_bytes state_bytes
state_short n few s h =
    let m = state_most n few s h in
    let l = less_seal (rec.Arrival (arrival.ViewState s)) 873 m in
    omega arith

pub request_short : (r : Request) → RightRequest r → length (said_bytes (statement_of (rec.Request r))) ≤ longest_statement
request_short r h = let l = covered_length.1 r h in omega arith

pub arrival_short : (n : ℕ) → 1 ≤ n → n ≤ 10 → (a : Arrival) → RightArrival n a → length (said_bytes (said_by a)) ≤ longest_statement
unfolding said_bytes
arrival_short n some few (arrival.Propose p) h = let l = claim_length mark.Propose p.sender p.proposal h.proposal_right in omega arith
arrival_short n some few (arrival.Prepare p) h = claim_short support.Prepared p.sender p.proposal h.proposal_right
arrival_short n some few (arrival.CheckCommit c) h = claim_short support.Committed c.sender c.prepared.proposal h.prepared_right.proposal_right
arrival_short n some few (arrival.Failure f) h =
    let a = length-append (head_bytes mark.Failure f.sender) (put 4 f.view) in
    let b = head_length mark.Failure f.sender in
    let c = put_length 4 f.view in
    omega arith
arrival_short n some few (arrival.ViewState s) h = state_short n few s h
arrival_short n some few (arrival.NewView v) h =
    let m = view_most n some few v h in
    less_seal (rec.Arrival (arrival.NewView v)) 6175 m
