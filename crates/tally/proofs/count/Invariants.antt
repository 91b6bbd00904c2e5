-- The words passed over have been counted.
use Rattle.std.proofs.Common.{◌≡◌, ◌+◌, ◌≤◌, length}
use Rattle.tally.specs.Tallies.{shared}
use Rattle.tally.proofs.count.Given as goal

abbrev pub invariant-loop-rest : goal.invariant-loop-rest
invariant-loop-rest g l =
    (l.signers + shared g.W.Word.signer g.W.Word.same l.rest l.word ≡ shared g.W.Word.signer g.W.Word.same l.words l.word)
    × (l.signers + length l.rest ≤ length l.words)

abbrev pub decreases-loop-rest : goal.decreases-loop-rest
decreases-loop-rest g l = length l.rest
