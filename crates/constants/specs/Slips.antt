-- What a step leaves for undoing it: what the serial had before, told by three numbers. 0, 0, 0: nothing changed.
-- 1, 0, 0: the serial was absent. 2, size, sign (0 or 1 for below zero): it had that offset.
use Rattle.std.specs.Prelude.{ℕ, cond, ◌&&◌, ℤ, pos, negsuc, neg_ℤ, Some, None, Option, ◌==◌, nat_le, unsigned_abs}
use Rattle.constants.specs.declared.command.Command.{Command}
use Rattle.constants.specs.declared.command.Command.TheVariants.{Set, Clear}
use Rattle.constants.specs.declared.former.Former.{Former}
use Rattle.services.specs.declared.slip.Slip.{Slip}

abbrev pub sign : ℤ → ℕ
sign (pos n) = 0
sign (negsuc n) = 1

-- of a change of a serial that had this offset, if any
abbrev pub slip_of_line : Option ℤ → Slip
slip_of_line None = record { first = 1; second = 0; third = 0 }
slip_of_line (Some o) = record { first = 2; second = unsigned_abs o; third = sign o }

-- of a change, or of none
abbrev pub slip_for : Option Former → Slip
slip_for None = record { first = 0; second = 0; third = 0 }
slip_for (Some former) = slip_of_line former.offset

-- the number of this size and sign
abbrev pub signed : ℕ → ℕ → ℤ
signed size s = cond (s == 1) (neg_ℤ (pos size)) (pos size)

-- a slip read back, whoever wrote it; one that no change gives tells of none
abbrev pub former_in : Slip → Option Former
former_in slip =
    cond (slip.first == 1) (Some (record { offset = None }))
    (cond (slip.first == 2 && nat_le slip.second 20000) (Some (record { offset = Some (signed slip.second slip.third) })) None)

-- the command that gives a serial this offset, or takes away the one it has
abbrev pub command_for : ℕ → Option ℤ → Command
command_for serial None = Clear serial
command_for serial (Some o) = Set serial o

-- the command that brings back what the serial had
abbrev pub inverse : ℕ → Former → Command
inverse serial former = command_for serial former.offset
