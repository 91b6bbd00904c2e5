-- What a book of constants means: the offset that it has for each serial, if any. That is a function of the serial and
-- nothing else, so neither the places that hold the entries nor their order can be seen in it: books with different
-- layouts that have the same entries mean the same function. How many entries there are is counted over the serials.
use Rattle.std.specs.Prelude.{◌≡◌, ℕ, zero, suc, ◌^◌, ◌≤◌, cond, ◌||◌, ℤ, is_some, Some, None, Option, Ok, Err, Result, ◌==◌, nat_lt}
use Rattle.constants.specs.Commands.{command_of, serial_in}
use Rattle.constants.specs.Ranges.{InRange, in_range}
use Rattle.constants.specs.Results.{number}
use Rattle.constants.specs.Slips.{slip_for, inverse}
use Rattle.constants.specs.declared.command.Command.{Command}
use Rattle.constants.specs.declared.command.Command.TheVariants.{Set, Clear}
use Rattle.constants.specs.declared.entry.Entry.{Entry}
use Rattle.constants.specs.declared.former.Former.{Former}
use Rattle.constants.specs.declared.refusal.Refusal.{Refusal}
use Rattle.constants.specs.declared.refusal.Refusal.TheVariants.{NoPlace, WrongPayload, Absent}
use Rattle.payload.specs.declared.payload.Payload.{Payload}
use Rattle.services.specs.declared.slip.Slip.{Slip}
use Rattle.std.specs.Result.{result_ok}

-- the offset by serial
abbrev pub Book : Type 0
Book = ℕ → Option ℤ

abbrev pub empty_book : Book
empty_book serial = None

-- the book with another line for one serial
abbrev pub written : Book → ℕ → Option ℤ → Book
written f serial line q = cond (q == serial) line (f q)

-- how many serials below n have an entry
unfoldable pub held_below : Book → ℕ → ℕ
held_below f zero = 0
held_below f (suc n) = cond (is_some (f n)) (suc (held_below f n)) (held_below f n)

-- how many entries there are: a serial has four bytes
abbrev pub held : Book → ℕ
held f = held_below f (2 ^ 32)

-- what undoing has to know of a serial with this line
abbrev pub offset_in : Option Entry → Option ℤ
offset_in None = None
offset_in (Some e) = Some e.offset

abbrev pub was : Option ℤ → Former
was line = record { offset = line }

-- what comes of a command, or of a payload that is none: what the serial had where the command is done, or why it is
-- not. A wrong payload comes first; a serial that is held already needs no place.
abbrev pub outcome : Book → Option Command → Result Former Refusal
outcome f None = Err WrongPayload
outcome f (Some (Set s o)) = cond (in_range o) (cond (is_some (f s) || nat_lt (held f) 64) (Ok (was (f s))) (Err NoPlace)) (Err WrongPayload)
outcome f (Some (Clear s)) = cond (is_some (f s)) (Ok (was (f s))) (Err Absent)

abbrev pub line_of : Command → Option ℤ
line_of (Set s o) = Some o
line_of (Clear s) = None

-- only what is done changes the book
abbrev pub settled : Book → Command → Result Former Refusal → Book
settled f c (Ok former) = written f (serial_in c) (line_of c)
settled f c (Err refusal) = f

abbrev pub carried_out : Book → Option Command → Book
carried_out f None = f
carried_out f (Some c) = settled f c (outcome f (Some c))

-- the step of a book and its result, by state and payload
abbrev pub stepped : Book → Payload → Book
stepped f p = carried_out f (command_of p)

abbrev pub answer : Book → Payload → ℕ
answer f p = number (outcome f (command_of p))

-- what undoing has to know of a step, if it changed anything
abbrev pub former_of : Book → Option Command → Option Former
former_of f o = result_ok (outcome f o)

-- undoing a command that changed anything carries out its inverse
abbrev pub restored : Book → Option Command → Option Former → Book
restored f None former = f
restored f (Some c) None = f
restored f (Some c) (Some former) = carried_out f (Some (inverse (serial_in c) former))

-- a command was carried out, or there was none: f is the book before, g the book after, r what came of it
pub record Carried (f : Book) (o : Option Command) (r : Result Former Refusal) (g : Book) : Type 0 where
  pub answers : r ≡ outcome f o
  pub leaves : g ≡ carried_out f o

-- what every book keeps to: at most 64 entries, within the range, by serials of four bytes
pub record Sound (f : Book) : Type 0 where
  pub few : held f ≤ 64
  pub ranged : (serial : ℕ) (offset : ℤ) → f serial ≡ Some offset → InRange offset
  pub serials : (serial : ℕ) → 2 ^ 32 ≤ serial → f serial ≡ None

-- a slip that undoes the step by p from the book f
pub record Undoes (f : Book) (p : Payload) (slip : Slip) : Type 0 where
  pub sound : Sound f
  pub keeps : slip ≡ slip_for (former_of f (command_of p))
