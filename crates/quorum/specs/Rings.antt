-- What making a ring answers, and what a ring is known by: its number of replicas.
use Rattle.std.specs.Prelude.{ℕ, cond, ◌&&◌, Ok, Err, Result, nat_le}
use Rattle.quorum.specs.declared.figures.Ring.{Ring}
use Rattle.quorum.specs.declared.refusal.Fault.{Fault}
use Rattle.quorum.specs.declared.refusal.Fault.TheVariants.{WrongSender}

-- the number of replicas of a ring
abbrev pub stations_of : Ring → ℕ
stations_of ring = ring.stations

-- a ring by its number of replicas
abbrev pub seen : Result Ring Fault → Result ℕ Fault
seen (Ok ring) = Ok (stations_of ring)
seen (Err e) = Err e

-- a ring has 1 to 10 replicas; any other number is a wrong sender, with no field to point at
abbrev pub made_of : ℕ → Result ℕ Fault
made_of n = cond (nat_le 1 n && nat_le n 10) (Ok n) (Err (WrongSender 0))
