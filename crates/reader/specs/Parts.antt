-- What a part of the bytes that is handed out holds.
use Rattle.std.specs.Prelude.{ℕ, List, Ok, Err, Result}
use Rattle.std.specs.Borrow.{Bor}
use Rattle.quorum.specs.declared.refusal.Fault.{Fault}

-- the bytes behind the reference, or the fault
abbrev pub shown : Result (Bor (List ℕ)) Fault → Result (List ℕ) Fault
shown (Ok part) = Ok part.now
shown (Err e) = Err e
