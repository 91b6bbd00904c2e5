-- The results of a book of constants, by what came of a command.
use Rattle.std.specs.Prelude.{ℕ, Ok, Err, Result}
use Rattle.constants.specs.declared.former.Former.{Former}
use Rattle.constants.specs.declared.refusal.Refusal.{Refusal}
use Rattle.constants.specs.declared.refusal.Refusal.TheVariants.{NoPlace, WrongPayload, Absent}

abbrev pub number : Result Former Refusal → ℕ
number (Ok former) = 0
number (Err NoPlace) = 1
number (Err WrongPayload) = 2
number (Err Absent) = 3
