use Rattle.std.proofs.Common.{arith}
use Rattle.siphash.specs.Siphash.{start}
use Rattle.siphash.proofs.Words.{word_at}
use Rattle.siphash.proofs.State.new.Goals as goal

pub returns : goal.returns
unfolding start
returns c =
    let key = c.args.key.now.0 in
    let k0 = word_at key 0 (omega arith) in
    let k1 = word_at key 1 (omega arith) in
    cc
