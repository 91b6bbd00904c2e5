-- How bytes are read: strictly from left to right, field by field. A field that is not whole is a fault at the input's
-- end, a whole field with a wrong value one at its first byte, and a byte after the record one at that byte.
use Rattle.std.specs.Prelude.{ℕ, zero, suc, ◌+◌, ◌*◌, ◌/◌, ◌^◌, Bool, cond, ◌&&◌, List, [], ◌∷◌, ◌++◌, length, take, drop, Some, None, Ok, Err, Option, Result, ◌==◌, count_ones, nat_le}
use Rattle.quorum.specs.declared.refusal.Fault.{Fault}
use Rattle.quorum.specs.declared.refusal.Fault.TheVariants.{Unreadable, WrongSender}
use Rattle.quorum.specs.Figures.{quorum_of}
use Rattle.records.specs.Numbers.{number_of, shows}
use Rattle.records.specs.Lists.{filled}
use Rattle.records.specs.Marks.{mark_of, letters}
use Rattle.records.specs.Blanks.{blank_certificate, blank_state}
use Rattle.records.specs.declared.few.Few.{Few}
use Rattle.records.specs.declared.marks.Mark.{Mark}
use Rattle.records.specs.declared.marks.Mark.TheVariants as mark
use Rattle.records.specs.declared.request.Request.{Request}
use Rattle.records.specs.declared.request.Proposal.{Proposal}
use Rattle.records.specs.declared.certificate.Certificate.{Certificate}
use Rattle.records.specs.declared.arrivals.Claim.{Claim}
use Rattle.records.specs.declared.arrivals.CheckCommit.{CheckCommit}
use Rattle.records.specs.declared.arrivals.Inform.{Inform}
use Rattle.records.specs.declared.arrivals.Failure.{Failure}
use Rattle.records.specs.declared.arrivals.ViewState.{ViewState}
use Rattle.records.specs.declared.arrivals.NewView.{NewView}
use Rattle.records.specs.declared.arrivals.Arrival.{Arrival}
use Rattle.records.specs.declared.arrivals.Arrival.TheVariants as arrival
use Rattle.records.specs.declared.arrivals.Record.{Record}
use Rattle.records.specs.declared.arrivals.Record.TheVariants as rec

-- go on with what was read, or stop at the fault
infixr 1 ◌then◌
abbrev pub ◌then◌ : {A B : Type 0} → Result A Fault → (A → Result B Fault) → Result B Fault
Ok x then f = f x
Err e then f = Err e

-- go on, or stop at the field that stands at a place
abbrev pub check : {A : Type 0} → Bool → ℕ → Result A Fault → Result A Fault
check right at rest = cond right rest (Err (Unreadable at))

-- k bytes at a place
abbrev pub part_at : ℕ → List ℕ → ℕ → Result (List ℕ) Fault
part_at k bs at = cond (nat_le (at + k) (length bs)) (Ok (take k (drop at bs))) (Err (Unreadable (length bs)))

-- a number of k bytes at a place
abbrev pub number_at : ℕ → List ℕ → ℕ → Result ℕ Fault
number_at k bs at = part_at k bs at then (λ part. Ok (number_of part))

-- views run from 0 to this one
abbrev pub last_view : ℕ
last_view = 1000000

-- a view between two bounds
abbrev pub view_at : ℕ → ℕ → List ℕ → ℕ → Result ℕ Fault
view_at low high bs at = number_at 4 bs at then (λ view. check (nat_le low view && nat_le view high) at (Ok view))

abbrev pub request_at : List ℕ → ℕ → Result Request Fault
request_at bs at =
    number_at 2 bs at then (λ client. check (nat_le 1000 client) at (
    number_at 4 bs (at + 2) then (λ sequence. check (nat_le 1 sequence) (at + 2) (
    part_at 16 bs (at + 6) then (λ payload.
    number_at 8 bs (at + 22) then (λ seal.
    Ok (record { client = client; sequence = sequence; payload = record { bytes = payload }; seal = seal })))))))

abbrev pub proposal_at : List ℕ → ℕ → Result Proposal Fault
proposal_at bs at =
    view_at 0 last_view bs at then (λ view.
    number_at 4 bs (at + 4) then (λ round.
    request_at bs (at + 8) then (λ request.
    Ok (record { view = view; round = round; request = request }))))

-- k values one after another, with the place after them; `read i` reads the value at index i
abbrev pub several : {A : Type 0} → (ℕ → ℕ → Result (A × ℕ) Fault) → ℕ → ℕ → Result (List A × ℕ) Fault
several read at zero = Ok ([], at)
several read at (suc k) =
    several read at k then (λ before. read k before.1 then (λ next. Ok (before.0 ++ (next.0 ∷ []), next.1)))

-- the seal of one station in a certificate, where the mask shows it
abbrev pub slot_at : List ℕ → ℕ → ℕ → ℕ → Result (Option ℕ × ℕ) Fault
slot_at bs mask i at =
    cond (shows mask i) (number_at 8 bs at then (λ seal. Ok (Some seal, at + 8))) (Ok (None, at))

-- the seals that a mask announces, by rising station
abbrev pub seals_at : List ℕ → ℕ → ℕ → Result (List (Option ℕ)) Fault
seals_at bs mask at = several (slot_at bs mask) at 10 then (λ seals. Ok seals.0)

-- a mask has exactly q bits, and none at n or above
abbrev pub quorate : ℕ → ℕ → Bool
quorate n mask = mask / 2 ^ n == 0 && count_ones mask == quorum_of n

abbrev pub certificate_at : ℕ → List ℕ → ℕ → Result Certificate Fault
certificate_at n bs at =
    proposal_at bs at then (λ proposal.
    number_at 2 bs (at + 38) then (λ mask. check (quorate n mask) (at + 38) (
    seals_at bs mask (at + 40) then (λ seals.
    Ok (record { proposal = proposal; seals = seals })))))

-- how long a certificate is: a proposal, a mask and q seals
abbrev pub certificate_size : ℕ → ℕ
certificate_size n = 40 + 8 * quorum_of n

-- a count of 0 or 1, and that many certificates
abbrev pub commit_at : ℕ → List ℕ → ℕ → Result (Option Certificate × ℕ) Fault
commit_at n bs at =
    number_at 1 bs at then (λ count. check (nat_le count 1) at (
    cond (count == 0) (Ok (None, at + 1))
    (certificate_at n bs (at + 1) then (λ c. Ok (Some c, at + 1 + certificate_size n)))))

-- a certificate with the place after it
abbrev pub listed_at : ℕ → List ℕ → ℕ → ℕ → Result (Certificate × ℕ) Fault
listed_at n bs i at = certificate_at n bs at then (λ c. Ok (c, at + certificate_size n))

-- so many certificates, one after another
abbrev pub gathered_at : ℕ → List ℕ → ℕ → ℕ → Result (Few Certificate 8 × ℕ) Fault
gathered_at n bs at count =
    several (listed_at n bs) at count then (λ cs. Ok (filled blank_certificate 8 cs.0, cs.1))

-- a count of 0 to 8, and that many certificates
abbrev pub prepared_at : ℕ → List ℕ → ℕ → Result (Few Certificate 8 × ℕ) Fault
prepared_at n bs at =
    number_at 1 bs at then (λ count. check (nat_le count 8) at (gathered_at n bs (at + 1) count))

-- a view state, with the place after it
abbrev pub state_at : ℕ → List ℕ → ℕ → Result (ViewState × ℕ) Fault
state_at n bs at =
    number_at 2 bs at then (λ letter. check (letter == letters mark.ViewState) at (
    number_at 1 bs (at + 2) then (λ sender.
    view_at 0 999999 bs (at + 3) then (λ view.
    commit_at n bs (at + 7) then (λ commit.
    prepared_at n bs commit.1 then (λ prepared.
    number_at 8 bs prepared.1 then (λ seal.
    Ok (
      record { sender = sender; view = view; commit = commit.0; prepared = prepared.0; seal = seal },
      prepared.1 + 8,
    ))))))))

-- a sender and its proposal, after the mark: what a Propose and a Prepare hold
abbrev pub claim_in : List ℕ → Result Claim Fault
claim_in bs =
    number_at 1 bs 2 then (λ sender.
    proposal_at bs 3 then (λ proposal.
    number_at 8 bs 41 then (λ seal.
    Ok (record { sender = sender; proposal = proposal; seal = seal }))))

abbrev pub check_commit_in : ℕ → List ℕ → Result CheckCommit Fault
check_commit_in n bs =
    number_at 1 bs 2 then (λ sender.
    certificate_at n bs 3 then (λ prepared.
    number_at 8 bs (3 + certificate_size n) then (λ seal.
    Ok (record { sender = sender; prepared = prepared; seal = seal }))))

abbrev pub inform_in : List ℕ → Result Inform Fault
inform_in bs =
    number_at 1 bs 2 then (λ sender.
    proposal_at bs 3 then (λ proposal.
    number_at 8 bs 41 then (λ result.
    number_at 8 bs 49 then (λ seal.
    Ok (record { sender = sender; proposal = proposal; result = result; seal = seal })))))

abbrev pub failure_in : List ℕ → Result Failure Fault
failure_in bs =
    number_at 1 bs 2 then (λ sender.
    view_at 0 999999 bs 3 then (λ view.
    number_at 8 bs 7 then (λ seal.
    Ok (record { sender = sender; view = view; seal = seal }))))

-- one of the view states of a new view
abbrev pub member_at : ℕ → List ℕ → ℕ → ℕ → Result (ViewState × ℕ) Fault
member_at n bs i at = state_at n bs at

-- so many view states, one after another
abbrev pub members_at : ℕ → List ℕ → ℕ → ℕ → Result (Few ViewState 7 × ℕ) Fault
members_at n bs at count =
    several (member_at n bs) at count then (λ states. Ok (filled blank_state 7 states.0, states.1))

-- a new view, with the place after it; its count is the ring's quorum
abbrev pub new_view_in : ℕ → List ℕ → Result (NewView × ℕ) Fault
new_view_in n bs =
    number_at 1 bs 2 then (λ sender.
    view_at 1 last_view bs 3 then (λ view.
    number_at 1 bs 7 then (λ count. check (count == quorum_of n) 7 (
    members_at n bs 8 count then (λ states.
    number_at 8 bs states.1 then (λ seal.
    Ok (
      record { sender = sender; view = view; states = states.0; seal = seal },
      states.1 + 8,
    )))))))

-- a call takes only some marks; any other is a fault at the mark
abbrev pub refused_mark : {A : Type 0} → Result A Fault
refused_mark = Err (Unreadable 0)

-- the mark that bytes begin with
abbrev pub mark_or : Option Mark → Result Mark Fault
mark_or None = refused_mark
mark_or (Some m) = Ok m

abbrev pub mark_at : List ℕ → Result Mark Fault
mark_at bs = number_at 2 bs 0 then (λ letter. mark_or (mark_of letter))

-- what a call reads behind each mark, with the place after it: a request
abbrev pub request_behind : List ℕ → Mark → Result (Request × ℕ) Fault
request_behind bs mark.Request = request_at bs 2 then (λ r. Ok (r, 32))
request_behind bs mark.Propose = refused_mark
request_behind bs mark.Prepare = refused_mark
request_behind bs mark.CheckCommit = refused_mark
request_behind bs mark.Inform = refused_mark
request_behind bs mark.Failure = refused_mark
request_behind bs mark.ViewState = refused_mark
request_behind bs mark.NewView = refused_mark

-- an inform
abbrev pub inform_behind : List ℕ → Mark → Result (Inform × ℕ) Fault
inform_behind bs mark.Request = refused_mark
inform_behind bs mark.Propose = refused_mark
inform_behind bs mark.Prepare = refused_mark
inform_behind bs mark.CheckCommit = refused_mark
inform_behind bs mark.Inform = inform_in bs then (λ i. Ok (i, 57))
inform_behind bs mark.Failure = refused_mark
inform_behind bs mark.ViewState = refused_mark
inform_behind bs mark.NewView = refused_mark

-- what stations send each other
abbrev pub arrival_behind : ℕ → List ℕ → Mark → Result (Arrival × ℕ) Fault
arrival_behind n bs mark.Request = refused_mark
arrival_behind n bs mark.Propose = claim_in bs then (λ p. Ok (arrival.Propose p, 49))
arrival_behind n bs mark.Prepare = claim_in bs then (λ p. Ok (arrival.Prepare p, 49))
arrival_behind n bs mark.CheckCommit =
    check_commit_in n bs then (λ c. Ok (arrival.CheckCommit c, 11 + certificate_size n))
arrival_behind n bs mark.Inform = refused_mark
arrival_behind n bs mark.Failure = failure_in bs then (λ f. Ok (arrival.Failure f, 15))
arrival_behind n bs mark.ViewState = state_at n bs 0 then (λ s. Ok (arrival.ViewState s.0, s.1))
arrival_behind n bs mark.NewView = new_view_in n bs then (λ v. Ok (arrival.NewView v.0, v.1))

-- any record
abbrev pub sent : Result (Arrival × ℕ) Fault → Result (Record × ℕ) Fault
sent r = r then (λ a. Ok (rec.Arrival a.0, a.1))

abbrev pub record_behind : ℕ → List ℕ → Mark → Result (Record × ℕ) Fault
record_behind n bs mark.Request = request_behind bs mark.Request then (λ r. Ok (rec.Request r.0, r.1))
record_behind n bs mark.Propose = sent (arrival_behind n bs mark.Propose)
record_behind n bs mark.Prepare = sent (arrival_behind n bs mark.Prepare)
record_behind n bs mark.CheckCommit = sent (arrival_behind n bs mark.CheckCommit)
record_behind n bs mark.Inform = inform_behind bs mark.Inform then (λ i. Ok (rec.Inform i.0, i.1))
record_behind n bs mark.Failure = sent (arrival_behind n bs mark.Failure)
record_behind n bs mark.ViewState = sent (arrival_behind n bs mark.ViewState)
record_behind n bs mark.NewView = sent (arrival_behind n bs mark.NewView)

-- nothing may stand after the record
abbrev pub whole : {A : Type 0} → List ℕ → A × ℕ → Result A Fault
whole bs got = check (length bs == got.1) got.1 (Ok got.0)

-- the bytes as exactly one request, one inform, one record that stations send each other
abbrev pub request_of : List ℕ → Result Request Fault
request_of bs = mark_at bs then (λ m. request_behind bs m then (λ got. whole bs got))

abbrev pub inform_of : List ℕ → Result Inform Fault
inform_of bs = mark_at bs then (λ m. inform_behind bs m then (λ got. whole bs got))

abbrev pub arrival_of : ℕ → List ℕ → Result Arrival Fault
arrival_of n bs = mark_at bs then (λ m. arrival_behind n bs m then (λ got. whole bs got))

-- the first whole record that the bytes begin with, and the place after it
abbrev pub first_of : ℕ → List ℕ → Result (Record × ℕ) Fault
first_of n bs = mark_at bs then (λ m. record_behind n bs m)

-- the bytes as exactly one record of any kind
abbrev pub record_of : ℕ → List ℕ → Result Record Fault
record_of n bs = first_of n bs then (λ got. whole bs got)

-- the part of the bytes that holds their first whole record, for a ring of n stations
abbrev pub frame_of : ℕ → List ℕ → Result (List ℕ) Fault
frame_of n bs =
    cond (nat_le 1 n && nat_le n 10) (first_of n bs then (λ got. Ok (take got.1 bs))) (Err (WrongSender 0))
