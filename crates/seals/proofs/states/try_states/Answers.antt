-- Each turn tries one view state; what is left gives the answer.
use Rattle.std.proofs.Common.{refl, ap, arith, rules}
use Rattle.quorum.specs.Rings.{stations_of}
use Rattle.seals.proofs.Turns.{member_turn}
use Rattle.seals.proofs.states.try_states.Goals as goal

pub returns-in_err-try_member : goal.returns-in_err-try_member
returns-in_err-try_member g c =
    let e = member_turn (g.B.SealBox.genuine c.args.seals.now) (stations_of c.args.ring) c.loop-state.at _ c.as_slice-state-items.result.now c.loop-state.state-index _ _ c.loop-state-test.true c.try_member.ensures refl in
    search rules

pub loop-state-preserved : goal.loop-state-preserved
loop-state-preserved g c =
    let e = member_turn (g.B.SealBox.genuine c.args.seals.now) (stations_of c.args.ring) c.loop-state.at c.places-at.result.end c.as_slice-state-items.result.now c.loop-state.state-index _ _ c.loop-state-test.true c.try_member.ensures (ap (λ p. p.end) c.places-at.ensures.value) in
    record { left = search rules; near = omega (arith, c.places-at.ensures.bound, c.loop-state.invariant.near) }
