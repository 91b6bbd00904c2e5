-- Each turn reads one value more into its place; a fault at one is the fault of all.
use Rattle.std.proofs.Common.{◌≡◌, ◌<◌, sym, refl, ◌∙◌, arith, rules}
use Rattle.records.proofs.Several.{gathered_push, gathered_fault, gathered_few}
use Rattle.reader.proofs.Cursors.{read_ok, read_err}
use Rattle.reader.proofs.cursor.Cursor.several.Goals as goal

pub returns-in_err-read : goal.returns-in_err-read
returns-in_err-read g c item h =
    let before = c.loop-i.invariant item h in
    let r = h _ _ _ c.read.ensures in
    let f = gathered_fault before.1 c.args.count c.loop-i-test.true (read_err item before.0 refl r c.in_err-read.was) in
    let same = r.same ∙ before.0 in
    search rules

pub loop-i-preserved : goal.loop-i-preserved
loop-i-preserved g c item h =
    let before = c.loop-i.invariant item h in
    let r = h _ _ _ c.read.ensures in
    let few : c.loop-i._i < g.row.N = omega (arith, c.loop-i-test.true, c.requires.room) in
    let more = gathered_push before.1 before.2 few (read_ok item before.0 refl r c.in_ok-read.was) c.push.ensures in
    (r.same ∙ before.0, more.0, more.1)

pub returns : goal.returns
returns g c item h =
    let before = c.loop-i.invariant item h in
    let e : c.loop-i._i ≡ c.args.count = omega arith in
    record { same = before.0; value = sym (gathered_few before.1 c.args.count c.loop-i.values refl before.2 e) }
