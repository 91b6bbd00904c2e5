-- A view state that is right ends where its places say.
use Rattle.std.proofs.Common.{ap, sym, ◌∙◌, arith, rules}
use Rattle.chain.proofs.Steps.{state_more, state_broken}
use Rattle.chain.proofs.links.states_link.Goals as goal

pub returns-in_err-member_link : goal.returns-in_err-member_link
returns-in_err-member_link c =
    let e = state_broken _ _ _ _ _ _ _ c.loop-state-test.true _ (sym c.member_link.ensures ∙ c.in_err-member_link.was) in
    let all = c.loop-state.invariant.left in
    search rules

pub loop-state-preserved : goal.loop-state-preserved
loop-state-preserved c = record {
  left =
      sym (state_more _ _ _ _ _ _ _ c.loop-state-test.true (sym c.member_link.ensures ∙ c.in_ok-member_link.was) _ _ (ap (λ p. p.end) c.places-at.ensures.value) (omega (arith, c.from-low.ensures)))
      ∙ c.loop-state.invariant.left;
  near = omega (arith, c.places-at.ensures.bound, c.loop-state.invariant.near);
}
