-- A word that says the same counts unless its signer says so again further on.
use Rattle.std.proofs.Common.{arith, rules}
use Rattle.tally.proofs.Turns.{passed, repeated, one_more}
use Rattle.tally.proofs.count.Goals as goal
use Rattle.tally.proofs.count.Goals.{else-same-via-then-same+else-not-says, else-same-via-else-same}

pub loop-rest-preserved-then-not-says : goal.loop-rest-preserved-then-not-says
loop-rest-preserved-then-not-says g c =
    let e = one_more g.W.Word.signer g.W.Word.same c.args.word.now c.loop-rest.rest.now c.other-item.result c.in-len1-up.len_at_least c.other-item.is c.signer.result c.signer.ensures (search rules) (search rules) in
    (omega arith, omega arith)

pub loop-rest-preserved : goal.loop-rest-preserved
loop-rest-preserved g c =
    elim c.else-same.branch [
      | else-same-via-then-same+else-not-says w ↦
          let e = repeated g.W.Word.signer g.W.Word.same c.args.word.now c.loop-rest.rest.now c.other-item.result c.in-len1-up.len_at_least c.other-item.is w.signer.result w.signer.ensures (search rules) (search rules) in
          (omega arith, omega arith)
      | else-same-via-else-same w ↦
          let e = passed g.W.Word.signer g.W.Word.same c.args.word.now c.loop-rest.rest.now c.other-item.result c.in-len1-up.len_at_least c.other-item.is (search rules) in
          (omega arith, omega arith)
    ]
