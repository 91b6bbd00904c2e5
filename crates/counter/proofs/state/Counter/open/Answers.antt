-- With room for the request, sending it does not refuse.
use Rattle.std.proofs.Common.{arith}
use Rattle.std.proofs.lemmas.Bool.Decides.{nat_tests}
use Rattle.counter.proofs.Facts.{request_long, posted}
use Rattle.counter.proofs.state.Counter.open.Goals as goal

pub returns-in_err-write-clause-answer : goal.returns-in_err-write-clause-answer
returns-in_err-write-clause-answer g c =
    let l = request_long c.in_ok-request.request c.in_ok-request.ensures.long in
    let s = c.write.ensures.sent.sent.answered in
    absurd (grind (arith, nat_tests))

pub returns-in_err-write-clause-tray : goal.returns-in_err-write-clause-tray
returns-in_err-write-clause-tray g c =
    let l = request_long c.in_ok-request.request c.in_ok-request.ensures.long in
    let s = c.write.ensures.sent.sent.answered in
    absurd (grind (arith, nat_tests))

pub returns-clause-tray : goal.returns-clause-tray
returns-clause-tray g c =
    let p = posted c.in_ok-request.request _ _ _ c.in_ok-request.ensures.long (omega arith) c.write.ensures.sent in
    grind (arith, nat_tests)
