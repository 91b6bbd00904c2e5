-- What closing and writing off answer and leave.
use Rattle.std.specs.Prelude.{ℕ, cond, ◌&&◌, Some, None, Ok, Err, Option, Result, ◌==◌}
use Rattle.quorum.specs.declared.refusal.Fault.{Fault}
use Rattle.quorum.specs.declared.refusal.Fault.TheVariants.{NotNow, TooEarly}
use Rattle.informs.specs.Agreed.{agreed_by, most_alike}
use Rattle.informs.specs.ProofsOfExecution.{Seals, ProofOfExecution}
use Rattle.informs.specs.declared.agreed.Release.{Release}
use Rattle.counter.specs.declared.parts.Asked.{Asked}
use Rattle.counter.specs.Standing.{Core}
use Rattle.counter.specs.declared.parts.Ticket.{Ticket}

-- the open request, where the ticket is of its client and its sequence
abbrev pub served : Option Asked → Ticket → Option Asked
served None t = None
served (Some a) t =
    cond (a.request.client == t.client && a.request.sequence == t.sequence) (Some a) None

-- no request is open any more
abbrev pub ended : Core → Core
ended core = record { stations = core.stations; client = core.client; next = core.next; current = None }

-- with what a quorum says alike: that, or the ticket back
abbrev pub closed_on : Core → Ticket → Option Release → Result Release (Fault × Ticket) × Core
closed_on core t None = (Err (TooEarly, t), core)
closed_on core t (Some release) = (Ok release, ended core)

abbrev pub closed_for : Core → Ticket → Option Asked → Result Release (Fault × Ticket) × Core
closed_for core t None = (Err (NotNow 0, t), core)
closed_for core t (Some a) = closed_on core t (agreed_by core.stations a.heard)

abbrev pub closing : Core → Ticket → Result Release (Fault × Ticket) × Core
closing core t = closed_for core t (served core.current t)

abbrev pub written_off : Core → Ticket → Option Asked → Result (Unit {0}) (Fault × Ticket) × Core
written_off core t None = (Err (NotNow 0, t), core)
written_off core t (Some a) = (Ok tt, ended core)

abbrev pub writing_off : Core → Ticket → Result (Unit {0}) (Fault × Ticket) × Core
writing_off core t = written_off core t (served core.current t)

-- how many stations' latest informs are alike, at the most
abbrev pub most_in : Option Asked → ℕ
most_in None = 0
most_in (Some a) = most_alike a.heard

-- what closing gives is a proof of execution of the request that was open
abbrev pub Released : Seals → ℕ → Option Asked → Result Release (Fault × Ticket) → Type 0
Released genuine n current (Err e) = Unit {0}
Released genuine n None (Ok release) = ⊥
Released genuine n (Some a) (Ok release) = ProofOfExecution genuine n a.request release
