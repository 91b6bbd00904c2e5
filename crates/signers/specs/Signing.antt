-- What a box's signers are known by: the own number, and the table of secrets.
use Rattle.std.specs.Prelude.{ℕ, cond, ◌&&◌, Ok, Err, Result, nat_le, nat_lt}
use Rattle.quorum.specs.declared.refusal.Fault.{Fault}
use Rattle.quorum.specs.declared.refusal.Fault.TheVariants.{WrongSender}
use Rattle.signers.specs.declared.row.Entry.{Entry}
use Rattle.signers.specs.declared.table.Table.{Table}
use Rattle.signers.specs.declared.own.Signers.{Signers}
use Rattle.signers.specs.Tables.{added, empty}

abbrev pub entry_of : {T : Type 0} → ℕ → T → Entry T
entry_of n s = record { number = n; secret = s }

abbrev pub own_of : {T : Type 0} → Signers T → ℕ
own_of signers = signers.own

abbrev pub table_of : {T : Type 0} → Signers T → Table T
table_of signers = signers.table

-- signers by what they are known by
abbrev pub seen : {T : Type 0} → Result (Signers T) Fault → Result (ℕ × Table T) Fault
seen (Ok signers) = Ok (own_of signers, table_of signers)
seen (Err e) = Err e

-- making is refused just for the numbers that no one has; else the own secret is the one in the table
abbrev pub made_of : {T : Type 0} → ℕ → T → Result (ℕ × Table T) Fault
made_of own s = cond (nat_le 10 own && nat_lt own 1000) (Err (WrongSender 0)) (Ok (own, (added empty (entry_of own s)).1))
