use Rattle.std.proofs.Common.{◌≡◌, ◌<◌, ◌/◌, length, arith, rules}
use Rattle.siphash.specs.Siphash.{after, padded, start, siphash_of}
use Rattle.siphash.proofs.Words.{after_more, word_at, word_padded, word_last}
use Rattle.siphash.proofs.siphash.Goals as goal

pub loop-word-init : goal.loop-word-init
unfolding after
loop-word-init c = cc

pub loop-word-preserved : goal.loop-word-preserved
loop-word-preserved c =
    let m = c.args.message.now in
    let i = c.loop-word.word-index in
    let h : i < length m / 8 = omega arith in
    let s = after_more (start c.args.key.now.0) (padded m) i in
    let p = word_padded m i h in
    let w = word_at m i h in
    cc

pub returns : goal.returns
unfolding siphash_of
returns c =
    let m = c.args.message.now in
    let n : c.loop-word.word-index ≡ length m / 8 = omega arith in
    let s = after_more (start c.args.key.now.0) (padded m) (length m / 8) in
    let w = word_last m c.as_chunks.result.1.now c.topped-last.result c.as_chunks.ensures.back (search rules) in
    cc
