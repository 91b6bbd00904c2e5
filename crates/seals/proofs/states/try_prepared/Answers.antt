-- Each turn tries one certificate; what is left gives the answer.
use Rattle.std.proofs.Common.{◌+◌, ◌*◌, arith, rules}
use Rattle.quorum.specs.Rings.{stations_of}
use Rattle.seals.proofs.Turns.{certificate_turn}
use Rattle.seals.proofs.states.try_prepared.Goals as goal

pub returns-in_err-try_certificate : goal.returns-in_err-try_certificate
returns-in_err-try_certificate g c =
    let e = certificate_turn (g.B.SealBox.genuine c.args.seals.now) (stations_of c.args.placed.ring) (c.places-first.result.prepared + c.loop-i.i * c.certificate_size-size.result) (c.places-first.result.prepared + (c.loop-i.i + 1) * c.certificate_size-size.result) c.as_slice-certificates.result.now c.loop-i.i _ _ c.loop-i-test.true c.try_certificate.ensures (omega (arith, c.certificate_size-size.ensures.value)) in
    search rules

pub loop-i-preserved : goal.loop-i-preserved
loop-i-preserved g c =
    let e = certificate_turn (g.B.SealBox.genuine c.args.seals.now) (stations_of c.args.placed.ring) (c.places-first.result.prepared + c.loop-i.i * c.certificate_size-size.result) (c.places-first.result.prepared + (c.loop-i.i + 1) * c.certificate_size-size.result) c.as_slice-certificates.result.now c.loop-i.i _ _ c.loop-i-test.true c.try_certificate.ensures (omega (arith, c.certificate_size-size.ensures.value)) in
    search rules
