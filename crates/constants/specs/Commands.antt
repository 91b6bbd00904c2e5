-- How a book reads a payload of sixteen bytes: mark (1; 1 set, 2 clear), serial (4), seven zero bytes, offset (4; signed,
-- in tenths of a millimetre; 0 for clearing). Numbers have their highest byte first. Whether an offset is within the
-- range of an entry is not asked here.
use Rattle.std.specs.Prelude.{ℕ, ◌+◌, ◌*◌, cond, List, take, drop, Some, None, Option, ◌==◌, slice_index}
use Rattle.constants.specs.declared.command.Command.{Command}
use Rattle.constants.specs.declared.command.Command.TheVariants.{Set, Clear}
use Rattle.payload.specs.declared.payload.Payload.{Payload}
use Rattle.services.specs.Zeros.{all_zero}
use Rattle.std.specs.Int.{w32}
use Rattle.std.proofs.Common.{to_z}

-- four bytes from a place on, as one number
abbrev pub number_at : List ℕ → ℕ → ℕ
number_at bytes i =
    slice_index bytes i * 16777216 + slice_index bytes (i + 1) * 65536 + slice_index bytes (i + 2) * 256 + slice_index bytes (i + 3)

-- the offset's four bytes, read in two's complement
abbrev pub offset_bits : Payload → ℕ
offset_bits p = number_at p.bytes 12

abbrev pub marked : ℕ → ℕ → ℕ → Option Command
marked mark serial bits =
    cond (mark == 1) (Some (Set serial (to_z w32 bits)))
    (cond (mark == 2) (cond (bits == 0) (Some (Clear serial)) None) None)

abbrev pub command_of : Payload → Option Command
command_of p =
    cond (all_zero (take 7 (drop 5 p.bytes))) (marked (slice_index p.bytes 0) (number_at p.bytes 1) (offset_bits p)) None

abbrev pub serial_in : Command → ℕ
serial_in (Set s o) = s
serial_in (Clear s) = s
