-- The box is asked about just what the seal covers.
use Rattle.std.proofs.Common.{◌≡◌, sym, ap, ◌∙◌, arith, rules}
use Rattle.records.specs.Statements.{covered}
use Rattle.records.specs.declared.arrivals.Record.TheVariants as rec
use Rattle.seals.proofs.Heard.{inform_long, covered_part}
use Rattle.seals.proofs.admitting.try_inform.Goals as goal

pub slice_bounds-statement-count : goal.slice_bounds-statement-count
slice_bounds-statement-count g c = omega (arith, inform_long c.args.inform.now c.args.bytes.now c.requires)

pub returns-then-not-ask : goal.returns-then-not-ask
returns-then-not-ask g c =
    let i = c.args.inform.now in
    let part = covered_part i c.args.bytes.now c.requires in
    let asked : g.B.SealBox.genuine c.args.seals.now i.sender (covered (rec.Inform i)) i.seal ≡ c.ask.result =
    ap (λ s. g.B.SealBox.genuine c.args.seals.now s (covered (rec.Inform i)) i.seal) (sym c.from.ensures)
    ∙ ap (λ s. g.B.SealBox.genuine c.args.seals.now c.from.result s i.seal) (sym part)
    ∙ sym c.ask.ensures in
    search rules

pub returns : goal.returns
returns g c =
    let i = c.args.inform.now in
    let part = covered_part i c.args.bytes.now c.requires in
    let asked : g.B.SealBox.genuine c.args.seals.now i.sender (covered (rec.Inform i)) i.seal ≡ c.ask.result =
    ap (λ s. g.B.SealBox.genuine c.args.seals.now s (covered (rec.Inform i)) i.seal) (sym c.from.ensures)
    ∙ ap (λ s. g.B.SealBox.genuine c.args.seals.now c.from.result s i.seal) (sym part)
    ∙ sym c.ask.ensures in
    search rules
