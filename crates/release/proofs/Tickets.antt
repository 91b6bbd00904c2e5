-- The ticket at a desk stays the ticket of the open request. Assumes nothing.
use Rattle.std.proofs.Common.{◌≡◌, Bool, true, false, cond, ◌&&◌, eqb, is_some, Some, None, Ok, Err, Option, Result, refl, ap, ◌∙◌}
use Rattle.quorum.specs.declared.refusal.Fault.{Fault}
use Rattle.records.specs.declared.arrivals.Inform.{Inform}
use Rattle.counter.specs.Hearing.{kept, noted}
use Rattle.counter.specs.Closing.{served}
use Rattle.counter.specs.declared.parts.Asked.{Asked}
use Rattle.counter.specs.Standing.{Core}
use Rattle.counter.specs.declared.parts.Ticket.{Ticket}

abbrev pub Fits : Core → Ticket → Type 0
Fits core t = is_some (served core.current t) ≡ true

abbrev both : {A : Type 0} → A → Core → A × Core
both r core = (r, core)

either : (b : Bool) (x y : Asked) → is_some (cond b (Some x) None) ≡ true → is_some (cond b (Some y) None) ≡ true
either true x y h = refl
either false x y h = h

noted_fits : (o : Option Asked) (i : Inform) (t : Ticket) → is_some (served o t) ≡ true → is_some (served (noted o i) t) ≡ true
noted_fits None i t h = h
noted_fits (Some a) i t h = either (eqb a.request.client t.client && eqb a.request.sequence t.sequence) a _ h

pub heard_fits : (core : Core) (r : Result Inform Fault) (t : Ticket) (answer : Result (Unit {0}) Fault) (core' : Core) → both answer core' ≡ kept core r → Fits core t → Fits core' t
heard_fits core (Err f) t answer core' e h = ap (λ p. is_some (served p.1.current t)) e ∙ h
heard_fits core (Ok i) t answer core' e h = ap (λ p. is_some (served p.1.current t)) e ∙ noted_fits core.current i t h
