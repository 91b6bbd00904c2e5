-- What hearing answers and leaves.
use Rattle.std.specs.Prelude.{ℕ, Bool, false, cond, List, Some, None, Ok, Err, Option, Result, slice_set}
use Rattle.quorum.specs.declared.refusal.Fault.{Fault}
use Rattle.quorum.specs.declared.refusal.Fault.TheVariants.{NotNow}
use Rattle.records.specs.Reading.{◌then◌}
use Rattle.records.specs.declared.arrivals.Inform.{Inform}
use Rattle.informs.specs.Alike.{same_request}
use Rattle.informs.specs.ProofsOfExecution.{Seals, Sound}
use Rattle.seals.specs.Admitted.{heard}
use Rattle.counter.specs.declared.parts.Asked.{Asked}
use Rattle.counter.specs.Standing.{Core}

-- is an inform about the open request?
abbrev pub about : Option Asked → Inform → Bool
about None i = false
about (Some a) i = same_request a.request i.proposal.request

-- the inform that was admitted, where it is about the open request
abbrev pub wanted : Option Asked → Inform → Result Inform Fault
wanted current i = cond (about current i) (Ok i) (Err (NotNow 3))

-- what a hearing takes in, or the refusal
abbrev pub taken : Seals → ℕ → Option Asked → List ℕ → Result Inform Fault
taken genuine n current bytes = heard genuine n bytes then (λ i. wanted current i)

-- an inform at its station's place, in the stead of any earlier one
abbrev pub noted : Option Asked → Inform → Option Asked
noted None i = None
noted (Some a) i = Some (record { request = a.request; heard = slice_set a.heard i.sender (Some i) })

abbrev pub kept : Core → Result Inform Fault → Result (Unit {0}) Fault × Core
kept core (Err f) = (Err f, core)
kept core (Ok i) = (Ok tt, record { stations = core.stations; client = core.client; next = core.next; current = noted core.current i })

abbrev pub hearing : Seals → Core → List ℕ → Result (Unit {0}) Fault × Core
hearing genuine core bytes = kept core (taken genuine core.stations core.current bytes)

-- every inform that is kept is genuine and about the open request
abbrev pub SoundIn : Seals → Option Asked → Type 0
SoundIn genuine None = Unit {0}
SoundIn genuine (Some a) = Sound genuine a.request a.heard
