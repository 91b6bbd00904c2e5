-- What holds of every book of constants.
use Rattle.std.specs.Prelude.{◌≡◌, ℕ, ◌^◌, ◌<◌, ℤ, Some, None, ◌≢◌, slice_index, unsigned_abs}
use Rattle.constants.specs.Books.{Book, answer, carried_out, stepped, Sound}
use Rattle.constants.specs.Commands.{command_of, offset_bits, serial_in}
use Rattle.constants.specs.declared.command.Command.{Command}
use Rattle.constants.specs.declared.command.Command.TheVariants.{Set, Clear}
use Rattle.payload.specs.declared.payload.Payload.{Payload}

pub record BookRules : Type 0 where
  -- only the result 0 changes a book
  pub unchanged : (f : Book) (p : Payload) → (answer f p ≢ 0) → stepped f p ≡ f
  -- what was set stands there, and nothing else moved
  pub set_there : (f : Book) (p : Payload) (s : ℕ) (o : ℤ) → command_of p ≡ Some (Set s o) → answer f p ≡ 0 → stepped f p s ≡ Some o
  pub cleared_there : (f : Book) (p : Payload) (s : ℕ) → command_of p ≡ Some (Clear s) → stepped f p s ≡ None
  pub others : (f : Book) (p : Payload) (c : Command) (q : ℕ) → command_of p ≡ Some c → (q ≢ serial_in c) → stepped f p q ≡ f q
  -- an offset out of range, and clearing with an offset
  pub too_far : (f : Book) (p : Payload) (s : ℕ) (o : ℤ) → command_of p ≡ Some (Set s o) → 20000 < unsigned_abs o → answer f p ≡ 2
  pub clear_with_offset : (f : Book) (p : Payload) → slice_index p.bytes 0 ≡ 2 → (offset_bits p ≢ 0) → answer f p ≡ 2
  -- a serial that is held has a place
  pub held_has_place : (f : Book) (p : Payload) (s : ℕ) (o o' : ℤ) → command_of p ≡ Some (Set s o) → f s ≡ Some o' → answer f p ≢ 1
  -- at most 64 entries, within the range
  pub stays_sound : (f : Book) (c : Command) → serial_in c < 2 ^ 32 → Sound f → Sound (carried_out f (Some c))
