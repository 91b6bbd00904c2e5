-- What is admitted of what arrives: refusals 2 to 5, in their order.
use Rattle.std.specs.Prelude.{ℕ, Bool, true, cond, not, ◌&&◌, List, Some, None, Ok, Err, Option, Result, ◌==◌, nat_lt}
use Rattle.quorum.specs.declared.refusal.Fault.{Fault}
use Rattle.quorum.specs.declared.refusal.Fault.TheVariants.{WrongSender}
use Rattle.quorum.specs.Figures.{primary_of}
use Rattle.records.specs.Reading.{◌then◌, arrival_of, request_of, inform_of}
use Rattle.records.specs.Chain.{chain_of}
use Rattle.records.specs.declared.request.Request.{Request}
use Rattle.records.specs.declared.arrivals.Inform.{Inform}
use Rattle.records.specs.declared.arrivals.Arrival.{Arrival}
use Rattle.records.specs.declared.arrivals.Arrival.TheVariants as arrival
use Rattle.records.specs.Writing.{sent_by}
use Rattle.seals.specs.Tried.{seals_of, seals_of_request, seals_of_inform, first_false}

-- a sender is another station of the ring
abbrev pub other : ℕ → ℕ → ℕ → Bool
other n own sender = nat_lt sender n && not (sender == own)

-- a Propose and a NewView come from the primary of their view
abbrev pub primary_for : ℕ → Arrival → Option ℕ
primary_for n (arrival.Propose p) = Some (primary_of n p.proposal.view)
primary_for n (arrival.Prepare p) = None
primary_for n (arrival.CheckCommit c) = None
primary_for n (arrival.Failure f) = None
primary_for n (arrival.ViewState s) = None
primary_for n (arrival.NewView v) = Some (primary_of n v.view)

abbrev pub is_it : ℕ → Option ℕ → Bool
is_it sender None = true
is_it sender (Some primary) = primary == sender

-- whether a record may come from its sender
abbrev pub may_send : ℕ → ℕ → Arrival → Bool
may_send n own a = other n own (sent_by a) && is_it (sent_by a) (primary_for n a)

-- the sender stands at place 2
abbrev pub sender_of : ℕ → ℕ → Arrival → Result (Unit {0}) Fault
sender_of n own a = cond (may_send n own a) (Ok tt) (Err (WrongSender 2))

-- readable, from a right sender, within the chain rule, with genuine seals
abbrev pub admitted : (ℕ → List ℕ → ℕ → Bool) → ℕ → ℕ → List ℕ → Result Arrival Fault
admitted genuine n own bs =
    arrival_of n bs then (λ a.
    sender_of n own a then (λ _.
    chain_of n a then (λ _.
    first_false genuine (seals_of n a) then (λ _.
    Ok a))))

-- a request that is submitted
abbrev pub submitted : (ℕ → List ℕ → ℕ → Bool) → List ℕ → Result Request Fault
submitted genuine bs = request_of bs then (λ r. first_false genuine (seals_of_request r) then (λ _. Ok r))

-- an inform that is heard in a ring of n
abbrev pub heard : (ℕ → List ℕ → ℕ → Bool) → ℕ → List ℕ → Result Inform Fault
heard genuine n bs =
    inform_of bs then (λ i.
    cond (nat_lt i.sender n) (first_false genuine (seals_of_inform i) then (λ _. Ok i)) (Err (WrongSender 2)))
