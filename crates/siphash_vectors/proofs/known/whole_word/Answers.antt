use Rattle.siphash.specs.Siphash.{siphash_of, finished, folded, marked, after, padded, compressed, mixed_low, mixed_high, start, word, little, sipround, step_one, step_two, step_three, step_four, rotated, plus}
use Rattle.siphash_vectors.proofs.known.whole_word.Goals as goal

pub returns : goal.returns
unfolding siphash_of finished folded marked after padded compressed mixed_low mixed_high start word little sipround step_one step_two step_three step_four rotated plus
returns c = c.siphash.ensures
