-- A ticket for the open request, with what a quorum says alike.
use Rattle.std.proofs.Common.{sym, ap, ◌∙◌}
use Rattle.std.specs.Option.{option_copied}
use Rattle.counter.proofs.Facts.{closed_proof}
use Rattle.counter.proofs.state.Counter.close.Goals as goal

pub returns-clause-proof : goal.returns-clause-proof
returns-clause-proof c = closed_proof _ _ c.args.ticket c.in-Some.asked.now c.in-Some-agreed.release c.self.view_is c.self.invariant (sym (ap option_copied c.in-Some.is) ∙ c.served.ensures) (sym c.agreed.ensures ∙ c.in-Some-agreed.is)
