-- The largest count so far, with those of the words to come, is the largest of all.
use Rattle.std.proofs.Common.{◌≡◌, fold, drop}
use Rattle.informs.proofs.Most.{larger}
use Rattle.informs.proofs.agreed.most.Given as goal

abbrev pub invariant-loop-word : goal.invariant-loop-word
invariant-loop-word l = fold (larger l.words) l.most (drop l.word-index l.words) ≡ fold (larger l.words) 0 l.words
