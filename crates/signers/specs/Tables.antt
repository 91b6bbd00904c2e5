-- What a table of signers holds, and what adding to it answers and leaves.
use Rattle.std.specs.Prelude.{ℕ, cond, List, replicate, None, Err, Option, Result, nat_lt}
use Rattle.quorum.specs.declared.refusal.Fault.{Fault}
use Rattle.quorum.specs.declared.refusal.Fault.TheVariants.{WrongSender}
use Rattle.signers.specs.declared.row.Entry.{Entry}
use Rattle.signers.specs.declared.table.Table.{Table}
use Rattle.signers.specs.Rows.{found, put}

-- the secret of a number: 0 to 9 are stations, 1,000 and above are clients, and no one has the numbers between
abbrev pub secret_of : {T : Type 0} → Table T → ℕ → Option T
secret_of t n =
    cond (nat_lt n 10) (found t.stations n)
    (cond (nat_lt n 1000) None
    (found t.clients n))

-- a table with other stations, and one with other clients
abbrev pub with_stations : {T : Type 0} → Table T → List (Option (Entry T)) → Table T
with_stations t row = record { stations = row; clients = t.clients }

abbrev pub with_clients : {T : Type 0} → Table T → List (Option (Entry T)) → Table T
with_clients t row = record { stations = t.stations; clients = row }

-- adding to a table: the numbers between are refused first
abbrev pub added : {T : Type 0} → Table T → Entry T → Result (Unit {0}) Fault × Table T
added t entry =
    cond (nat_lt entry.number 10) ((put t.stations entry).0, with_stations t (put t.stations entry).1)
    (cond (nat_lt entry.number 1000) (Err (WrongSender 0), t)
    ((put t.clients entry).0, with_clients t (put t.clients entry).1))

-- places for ten stations and sixteen clients, all free
abbrev pub empty : {T : Type 0} → Table T
empty = record { stations = replicate 10 None; clients = replicate 16 None }
