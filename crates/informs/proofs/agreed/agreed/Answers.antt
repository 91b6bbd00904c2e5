-- Where the tally names none, no inform has a quorum; where it names a station, that station's inform has one, and what
-- two quorums say is the same.
use Rattle.std.proofs.Common.{◌≡◌, ◌<◌, None, ap, ◌∙◌, arith}
use Rattle.std.specs.ControlFlow.{continue_value}
use Rattle.quorum.specs.Figures.{quorum_of}
use Rattle.quorum.specs.Rings.{stations_of}
use Rattle.informs.specs.Agreed.{agreed_by}
use Rattle.informs.proofs.Rows.{agreed_none, agreed_some}
use Rattle.informs.proofs.agreed.agreed.Goals as goal

pub returns-in_err-station : goal.returns-in_err-station
returns-in_err-station c =
    let enough : c.from.result ≡ quorum_of (stations_of c.args.ring) = omega (arith, c.from.ensures, c.quorum.ensures) in
    let none : None ≡ agreed_by (stations_of c.args.ring) c.args.heard.now =
    agreed_none (stations_of c.args.ring) c.args.heard.now c.args.ring.some c.requires _ (c.as_slice.ensures.value ∙ c.gathered-informs.ensures) _ enough _ c.tally.ensures (c.branch-station.ensures ∙ ap continue_value c.in_err-station.is) in
    cc

pub bounds-heard-from : goal.bounds-heard-from
bounds-heard-from c =
    let enough : c.from.result ≡ quorum_of (stations_of c.args.ring) = omega (arith, c.from.ensures, c.quorum.ensures) in
    let a = agreed_some (stations_of c.args.ring) c.args.heard.now c.args.ring.some c.requires _ (c.as_slice.ensures.value ∙ c.gathered-informs.ensures) _ enough _ c.tally.ensures _ (c.branch-station.ensures ∙ ap continue_value c.in_ok-station.is) in
    let low : c.in_ok-station.station < stations_of c.args.ring = a.0 in
    let few = c.args.ring.few in
    omega arith

pub returns : goal.returns
returns c =
    let enough : c.from.result ≡ quorum_of (stations_of c.args.ring) = omega (arith, c.from.ensures, c.quorum.ensures) in
    let a = agreed_some (stations_of c.args.ring) c.args.heard.now c.args.ring.some c.requires _ (c.as_slice.ensures.value ∙ c.gathered-informs.ensures) _ enough _ c.tally.ensures _ (c.branch-station.ensures ∙ ap continue_value c.in_ok-station.is) in
    let e = a.1 in
    grind arith
