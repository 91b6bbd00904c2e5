-- The paper has just the room.
use Rattle.counter.proofs.Facts.{covered_long}
use Rattle.std.proofs.Common.{arith}
use Rattle.std.proofs.lemmas.Bool.Decides.{nat_tests}
use Rattle.counter.proofs.sealing.sealed.Goals as goal

pub returns-in_err-end : goal.returns-in_err-end
returns-in_err-end g c =
    let l = covered_long c.args.request in
    grind (arith, nat_tests)
