-- Where view states end that keep the chain rule, and one turn of the loop over them. Assumes nothing.
use Rattle.std.proofs.Common.{◌≡◌, ℕ, ◌+◌, ◌<◌, List, [], ◌∷◌, length, get_or, drop, Some, None, Option, Ok, Err, Result, sym, ap, ◌∙◌, arith, ◌*◌}
use Rattle.std.proofs.lemmas.List.{at_drop_more}
use Rattle.quorum.specs.declared.refusal.Fault.{Fault}
use Rattle.records.specs.Lists.{listed}
use Rattle.records.specs.Reading.{certificate_size, ◌then◌}
use Rattle.records.specs.Chain.{rounds_link, commit_link, next_round, member_link, states_link}
use Rattle.records.specs.Places.{after_commit, state_end}
use Rattle.records.specs.declared.certificate.Certificate.{Certificate}
use Rattle.records.specs.declared.arrivals.ViewState.{ViewState}

-- certificates that are right end where their sizes say
rounds_passed : (n x at round : ℕ) (cs : List Certificate) → (rounds_link n x at round cs then (λ _. Ok (tt {0}))) ≡ Ok tt → rounds_link n x at round cs ≡ Ok (at + length cs * certificate_size n)
rounds_passed n x at round [] p = ap Ok (omega arith)
rounds_passed n x at round (c ∷ cs) p =
    let ih = rounds_passed n x (at + certificate_size n) (round + 1) cs in
    let e : at + certificate_size n + length cs * certificate_size n ≡ at + length (c ∷ cs) * certificate_size n = omega arith in
    grind arith

-- a view state that is right ends where its places say
whole : (n x at : ℕ) (o : Option Certificate) (cs : List Certificate) → ((commit_link n x at o then (λ place. rounds_link n x (place + 1) (next_round o) cs then (λ end. Ok (end + 8)))) then (λ _. Ok (tt {0}))) ≡ Ok tt → (commit_link n x at o then (λ place. rounds_link n x (place + 1) (next_round o) cs then (λ end. Ok (end + 8)))) ≡ Ok (after_commit n at o + 1 + length cs * certificate_size n + 8)
whole n x at None cs p = let r = rounds_passed n x (at + 1 + 1) 1 cs in grind arith
whole n x at (Some c) cs p = let r = rounds_passed n x (at + 1 + certificate_size n + 1) (c.proposal.round + 1) cs in grind arith

member_passed : (n w at low : ℕ) (s : ViewState) → (member_link n w at low s then (λ _. Ok (tt {0}))) ≡ Ok tt → member_link n w at low s ≡ Ok (state_end n at s)
member_passed n w at low s p = let r = whole n s.view (at + 7) s.commit (listed s.prepared) in grind arith

-- a fault is the fault of all that should follow
broken : (r : Result ℕ Fault) (more : ℕ → Result ℕ Fault) (f : Fault) → (r then (λ _. Ok (tt {0}))) ≡ Err f → ((r then more) then (λ _. Ok (tt {0}))) ≡ Err f
broken (Ok end) more f e = absurd (grind arith)
broken (Err g) more f e = e

-- one turn of the loop over view states
module _ (n w at low : ℕ) (ss : List ViewState) (i : ℕ) (d : ViewState) (h : i < length ss) where
  pub state_more : (member_link n w at low (get_or ss i d) then (λ _. Ok (tt {0}))) ≡ Ok tt → (next above : ℕ) → next ≡ state_end n at (get_or ss i d) → above ≡ (get_or ss i d).sender + 1 → states_link n w at low (drop i ss) ≡ states_link n w next above (drop (i + 1) ss)
  state_more p next above e f =
      at_drop_more (states_link n w at low) ss i d h
      ∙ ap (λ r. r then (λ end. states_link n w end ((get_or ss i d).sender + 1) (drop (i + 1) ss))) (member_passed n w at low (get_or ss i d) p)
      ∙ ap (λ k. states_link n w k ((get_or ss i d).sender + 1) (drop (i + 1) ss)) (sym e)
      ∙ ap (λ k. states_link n w next k (drop (i + 1) ss)) (sym f)

  pub state_broken : (f : Fault) → (member_link n w at low (get_or ss i d) then (λ _. Ok (tt {0}))) ≡ Err f → (states_link n w at low (drop i ss) then (λ _. Ok (tt {0}))) ≡ Err f
  state_broken f e =
      ap (λ r. r then (λ _. Ok (tt {0}))) (at_drop_more (states_link n w at low) ss i d h)
      ∙ broken (member_link n w at low (get_or ss i d)) (λ end. states_link n w end ((get_or ss i d).sender + 1) (drop (i + 1) ss)) f e
