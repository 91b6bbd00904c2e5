use Rattle.std.proofs.Common.{◌≡◌}
use Rattle.siphash.specs.Siphash.{start, after, padded}
use Rattle.siphash.proofs.siphash.Given as goal

abbrev pub invariant-loop-word : goal.invariant-loop-word
invariant-loop-word l = l.state ≡ after (start l.key.0) (padded l.message) l.word-index
