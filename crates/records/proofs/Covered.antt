-- A record is what its seal covers, what stands behind that, and the seal. Assumes nothing.
use Rattle.std.proofs.Common.{◌≡◌, ℕ, [], ◌++◌, sym, refl, ap, ◌∙◌, append_assoc}
use Rattle.records.specs.Numbers.{put}
use Rattle.records.specs.Writing.{claim_bytes, mark_bytes, asked_bytes, request_bytes, seals_bytes, check_commit_body, failure_body, state_body, new_view_body, body_bytes, inform_body, arrival_bytes, record_bytes}
use Rattle.records.specs.Statements.{said_bytes, covered, rest_of, rest_bytes, own_seal, under_seal}
use Rattle.records.specs.declared.arrivals.CheckCommit.{CheckCommit}
use Rattle.records.specs.declared.arrivals.Arrival.{Arrival}
use Rattle.records.specs.declared.arrivals.Arrival.TheVariants as arrival
use Rattle.records.specs.declared.arrivals.Record.{Record}
use Rattle.records.specs.declared.arrivals.Record.TheVariants as rec

-- under any seal
pub split_under : (r : Record) (seal : ℕ) → record_bytes (under_seal r seal) ≡ covered r ++ (rest_bytes r ++ put 8 seal)
unfolding said_bytes rest_of rest_bytes check_commit_body failure_body state_body new_view_body body_bytes inform_body arrival_bytes record_bytes request_bytes asked_bytes
split_under (rec.Request r) seal =
    sym (append_assoc (mark_bytes _) (put 2 r.client ++ (put 4 r.sequence ++ r.payload.bytes)) (put 8 seal))
split_under (rec.Inform i) seal = refl
split_under (rec.Arrival (arrival.Propose p)) seal = refl
split_under (rec.Arrival (arrival.Prepare p)) seal = refl
split_under (rec.Arrival (arrival.CheckCommit c)) seal =
    append_assoc (claim_bytes _ c.sender c.prepared.proposal) (seals_bytes c.prepared.seals) (put 8 seal)
split_under (rec.Arrival (arrival.Failure f)) seal = refl
split_under (rec.Arrival (arrival.ViewState s)) seal = refl
split_under (rec.Arrival (arrival.NewView v)) seal = refl

same_seal : (r : Record) → under_seal r (own_seal r) ≡ r
same_seal (rec.Request r) = refl
same_seal (rec.Inform i) = refl
same_seal (rec.Arrival (arrival.Propose p)) = refl
same_seal (rec.Arrival (arrival.Prepare p)) = refl
same_seal (rec.Arrival (arrival.CheckCommit c)) = refl
same_seal (rec.Arrival (arrival.Failure f)) = refl
same_seal (rec.Arrival (arrival.ViewState s)) = refl
same_seal (rec.Arrival (arrival.NewView v)) = refl

-- under its own
pub split_own : (r : Record) → record_bytes r ≡ covered r ++ (rest_bytes r ++ put 8 (own_seal r))
split_own r = ap record_bytes (sym (same_seal r)) ∙ split_under r (own_seal r)

-- nothing stands between the covered bytes and the seal but in a CheckCommit
pub no_rest_of : (a : Arrival) → ((c : CheckCommit) → a ≡ arrival.CheckCommit c → ⊥) → rest_of a ≡ []
unfolding rest_of
no_rest_of (arrival.Propose p) no-check = refl
no_rest_of (arrival.Prepare p) no-check = refl
no_rest_of (arrival.CheckCommit c) no-check = absurd (no-check c refl)
no_rest_of (arrival.Failure f) no-check = refl
no_rest_of (arrival.ViewState s) no-check = refl
no_rest_of (arrival.NewView v) no-check = refl

pub no_rest : (r : Record) → ((a : Arrival) → r ≡ rec.Arrival a → ⊥) → rest_bytes r ≡ []
unfolding rest_bytes
no_rest (rec.Request r) no-arrival = refl
no_rest (rec.Inform i) no-arrival = refl
no_rest (rec.Arrival a) no-arrival = absurd (no-arrival a refl)
