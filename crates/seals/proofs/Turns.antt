-- One turn of the loops that try seals, and lists of seals one after another. Assumes nothing.
use Rattle.std.proofs.Common.{◌≡◌, ℕ, ◌+◌, ◌<◌, Bool, true, false, cond, List, [], ◌∷◌, ◌++◌, length, get_or, drop, Ok, Err, Result, sym, refl, ap, ◌∙◌, arith}
use Rattle.std.proofs.lemmas.List.{at_drop_more}
use Rattle.quorum.specs.declared.refusal.Fault.{Fault}
use Rattle.quorum.specs.declared.refusal.Fault.TheVariants.{NotGenuine}
use Rattle.records.specs.Reading.{◌then◌, certificate_size}
use Rattle.records.specs.Places.{state_seal_place, state_end}
use Rattle.records.specs.Statements.{prepares, said_bytes}
use Rattle.records.specs.declared.certificate.Certificate.{Certificate}
use Rattle.records.specs.declared.arrivals.ViewState.{ViewState}
use Rattle.seals.specs.Tried.{Tried, tried, certificate_seals, prepared_seals, state_seals, state_says, states_seals, first_false}

-- seals before others are tried before them
pub false_append : (g : ℕ → List ℕ → ℕ → Bool) (xs ys : List Tried) → first_false g (xs ++ ys) ≡ (first_false g xs then (λ _. first_false g ys))
false_append g [] ys = refl
false_append g (x ∷ xs) ys = let ih = false_append g xs ys in grind arith

module _ (g : ℕ → List ℕ → ℕ → Bool) (n at next : ℕ) where
  -- one prepared certificate
  pub certificate_turn : (cs : List Certificate) (i : ℕ) (d : Certificate) (r : Result (Unit {0}) Fault) → i < length cs → r ≡ first_false g (certificate_seals prepares at (get_or cs i d)) → next ≡ at + certificate_size n → first_false g (prepared_seals n at (drop i cs)) ≡ (r then (λ _. first_false g (prepared_seals n next (drop (i + 1) cs))))
  certificate_turn cs i d r h t e =
      at_drop_more (λ l. first_false g (prepared_seals n at l)) cs i d h
      ∙ false_append g (certificate_seals prepares at (get_or cs i d)) (prepared_seals n (at + certificate_size n) (drop (i + 1) cs))
      ∙ ap (λ q. q then (λ _. first_false g (prepared_seals n (at + certificate_size n) (drop (i + 1) cs)))) (sym t)
      ∙ ap (λ k. r then (λ _. first_false g (prepared_seals n k (drop (i + 1) cs)))) (sym e)

  -- one view state of a new view: its certificates, and its own seal
  pub member_turn : (ss : List ViewState) (i : ℕ) (d : ViewState) (r : Result (Unit {0}) Fault) → i < length ss → let s : ViewState = get_or ss i d in r ≡ (first_false g (state_seals n at s) then (λ _. first_false g (tried s.sender (state_says s) s.seal (state_seal_place n at s) ∷ []))) → next ≡ state_end n at s → first_false g (states_seals n at (drop i ss)) ≡ (r then (λ _. first_false g (states_seals n next (drop (i + 1) ss))))
  member_turn ss i d r h t e =
      at_drop_more (λ l. first_false g (states_seals n at l)) ss i d h
      ∙ false_append g (state_seals n at s) _
      ∙ regroup (first_false g (state_seals n at s)) (g s.sender (said_bytes (state_says s)) s.seal)
      ∙ ap (λ q. q then (λ _. first_false g (states_seals n (state_end n at s) (drop (i + 1) ss)))) (sym t)
      ∙ ap (λ k. r then (λ _. first_false g (states_seals n k (drop (i + 1) ss)))) (sym e)
    where
      s : ViewState
      s = get_or ss i d

      own : ℕ
      own = state_seal_place n at s

      more : Result (Unit {0}) Fault
      more = first_false g (states_seals n (state_end n at s) (drop (i + 1) ss))

      regroup : (r : Result (Unit {0}) Fault) (b : Bool) → (r then (λ _. cond b more (Err (NotGenuine own)))) ≡ ((r then (λ _. cond b (Ok (tt {0})) (Err (NotGenuine own)))) then (λ _. more))
      regroup (Ok u) true = refl
      regroup (Ok u) false = refl
      regroup (Err f) b = refl
