-- The largest count of the words is the most of a row; a word that is not counted could not make it larger.
use Rattle.std.proofs.Common.{◌≡◌, sym, ◌∙◌, arith}
use Rattle.informs.specs.Agreed.{most_alike}
use Rattle.informs.proofs.Most.{larger_counted, larger_skipped, larger_end}
use Rattle.informs.proofs.Rows.{most_is, most_in_ring}
use Rattle.informs.proofs.agreed.most.Goals as goal
use Rattle.informs.proofs.agreed.most.Goals.{then-most-words, else-most-words}

pub loop-word-preserved : goal.loop-word-preserved
loop-word-preserved c =
    elim c.if-most-words.branch [
      | then-most-words w ↦
          sym (larger_counted c.as_slice-words.result.now c.loop-word.word-index c.loop-word.most w.count.result c.if-most-words.most _ c.loop-word-test.true w.count.ensures (omega (arith, w.most-is, w.max-most.ensures))) ∙ c.loop-word.invariant
      | else-most-words w ↦
          sym (larger_skipped c.as_slice-words.result.now c.loop-word.word-index c.loop-word.most c.if-most-words.most c.loop-word-test.true w.if-most-words.false w.most-is) ∙ c.loop-word.invariant
    ]

largest : (c : goal.After-loop-word) → c.loop-word.most ≡ most_alike c.args.heard.now
largest c =
    sym (larger_end c.as_slice-words.result.now c.loop-word.word-index c.loop-word.most c.loop-word-test.false)
    ∙ c.loop-word.invariant
    ∙ most_is 10 c.args.heard.now c.as_slice-words.result.now c.requires (c.as_slice-words.ensures.value ∙ c.gathered-informs.ensures)

pub overflow_cast-result : goal.overflow_cast-result
overflow_cast-result c =
    let e = largest c in
    let few = most_in_ring 10 c.args.heard.now c.requires in
    omega arith

pub returns : goal.returns
returns c = largest c
