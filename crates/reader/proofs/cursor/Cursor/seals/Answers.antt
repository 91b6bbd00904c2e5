-- Each turn reads one station's seal into its place; a fault at one is the fault of all.
use Rattle.std.proofs.Common.{◌≡◌, refl, ◌∙◌, arith, rules}
use Rattle.records.proofs.Several.{gathered_more, gathered_fault, gathered_all}
use Rattle.records.specs.Reading.{slot_at}
use Rattle.reader.proofs.Cursors.{read_ok, read_err}
use Rattle.reader.proofs.Seals.{seals_end}
use Rattle.reader.proofs.cursor.Cursor.seals.Goals as goal

pub returns-in_err-seal : goal.returns-in_err-seal
returns-in_err-seal c =
    let f = gathered_fault c.loop-i.invariant.got 10 c.loop-i-test.true (read_err (λ bs at. slot_at bs c.args.mask c.loop-i.i at) c.loop-i.invariant.same refl c.slot.ensures c.in_err-seal.was) in
    let same = c.slot.ensures.same ∙ c.loop-i.invariant.same in
    search rules

pub loop-i-preserved : goal.loop-i-preserved
loop-i-preserved c = record {
  same = c.slot.ensures.same ∙ c.loop-i.invariant.same;
  got = gathered_more c.loop-i.invariant.got c.loop-i-test.true (read_ok (λ bs at. slot_at bs c.args.mask c.loop-i.i at) c.loop-i.invariant.same refl c.slot.ensures c.in_ok-seal.was);
}

pub returns : goal.returns
returns c =
    let e : c.loop-i.i ≡ 10 = omega arith in
    let all = gathered_all c.loop-i.invariant.got e in
    let end = seals_end _ c.args.mask _ _ _ c.requires all in
    record { same = c.loop-i.invariant.same; value = rw all; moved = end }
