use Rattle.release.proofs.Tickets.{heard_fits}
use Rattle.release.proofs.desk.Pending.hear.Goals as goal

pub invariant_of-self : goal.invariant_of-self
invariant_of-self c = record { fits = heard_fits c.args.self.now.counter _ c.args.self.now.ticket c.hear.result c.hear.new.self c.hear.ensures.answer c.args.self.now.fits }
