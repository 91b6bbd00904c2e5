-- The chain rule. In a view state of view x the prepared rounds follow one another from the round above the commit, or
-- from 1 without one, and no certificate's view is above x. In a new view of view w every view state is of view w - 1,
-- and the senders are stations of the ring and rise. The fields are tried from left to right.
use Rattle.std.specs.Prelude.{ℕ, ◌+◌, Bool, cond, ◌&&◌, List, [], ◌∷◌, Some, None, Ok, Err, Option, Result, ◌==◌, nat_le, nat_lt}
use Rattle.quorum.specs.declared.refusal.Fault.{Fault}
use Rattle.quorum.specs.declared.refusal.Fault.TheVariants.{BrokenChain}
use Rattle.records.specs.Lists.{listed}
use Rattle.records.specs.Reading.{◌then◌, certificate_size}
use Rattle.records.specs.declared.certificate.Certificate.{Certificate}
use Rattle.records.specs.declared.arrivals.ViewState.{ViewState}
use Rattle.records.specs.declared.arrivals.Arrival.{Arrival}
use Rattle.records.specs.declared.arrivals.Arrival.TheVariants as arrival

-- go on, or stop at the field that breaks the chain
abbrev pub link : {A : Type 0} → Bool → ℕ → Result A Fault → Result A Fault
link right at rest = cond right rest (Err (BrokenChain at))

-- prepared certificates at a place: no view above x, and each round one above the one before; the place after them
abbrev pub rounds_link : ℕ → ℕ → ℕ → ℕ → List Certificate → Result ℕ Fault
rounds_link n x at round [] = Ok at
rounds_link n x at round (c ∷ cs) =
    link (nat_le c.proposal.view x) at (
    link (c.proposal.round == round) (at + 4) (
    rounds_link n x (at + certificate_size n) (round + 1) cs))

-- the commit certificate after its count at a place: its view is not above x; the place after it
abbrev pub commit_link : ℕ → ℕ → ℕ → Option Certificate → Result ℕ Fault
commit_link n x at None = Ok (at + 1)
commit_link n x at (Some c) = link (nat_le c.proposal.view x) (at + 1) (Ok (at + 1 + certificate_size n))

-- the round that the first prepared certificate has to have
abbrev pub next_round : Option Certificate → ℕ
next_round None = 1
next_round (Some c) = c.proposal.round + 1

-- a view state at a place, with the place after it
abbrev pub state_link : ℕ → ℕ → ViewState → Result ℕ Fault
state_link n at s =
    commit_link n s.view (at + 7) s.commit then (λ place.
    rounds_link n s.view (place + 1) (next_round s.commit) (listed s.prepared) then (λ end.
    Ok (end + 8)))

-- one view state of a new view of view w: its sender is a station from `low` on, and its view is the one before w
abbrev pub member_link : ℕ → ℕ → ℕ → ℕ → ViewState → Result ℕ Fault
member_link n w at low s =
    link (nat_le low s.sender && nat_lt s.sender n) (at + 2) (
    link (s.view + 1 == w) (at + 3) (
    state_link n at s))

-- the view states of a new view, whose senders rise from `low` on; the place after them
abbrev pub states_link : ℕ → ℕ → ℕ → ℕ → List ViewState → Result ℕ Fault
states_link n w at low [] = Ok at
states_link n w at low (s ∷ ss) =
    member_link n w at low s then (λ end. states_link n w end (s.sender + 1) ss)

-- the chain rule of a record that arrives; only view states and new views have one
abbrev pub chain_of : ℕ → Arrival → Result (Unit {0}) Fault
chain_of n (arrival.Propose p) = Ok tt
chain_of n (arrival.Prepare p) = Ok tt
chain_of n (arrival.CheckCommit c) = Ok tt
chain_of n (arrival.Failure f) = Ok tt
chain_of n (arrival.ViewState s) = state_link n 0 s then (λ end. Ok tt)
chain_of n (arrival.NewView v) = states_link n v.view 8 0 (listed v.states) then (λ end. Ok tt)
