-- What making a counter answers.
use Rattle.std.specs.Prelude.{ℕ, cond, ◌&&◌, None, Ok, Err, Result, nat_le}
use Rattle.quorum.specs.declared.refusal.Fault.{Fault}
use Rattle.quorum.specs.declared.refusal.Fault.TheVariants.{WrongSender, OutOfRange}
use Rattle.counter.specs.Standing.{Core}

-- no request is open, and the next has the first sequence
abbrev pub fresh : ℕ → ℕ → ℕ → Core
fresh n client first = record { stations = n; client = client; next = first; current = None }

-- 1 to 10 stations and a client's number, then a first sequence other than 0
abbrev pub made_of : ℕ → ℕ → ℕ → Result Core Fault
made_of n client first =
    cond ((nat_le 1 n && nat_le n 10) && nat_le 1000 client)
    (cond (nat_le 1 first) (Ok (fresh n client first)) (Err (OutOfRange 0)))
    (Err (WrongSender 0))
