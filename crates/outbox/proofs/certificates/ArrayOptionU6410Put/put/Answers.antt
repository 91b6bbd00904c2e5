-- The mask, and then the seals.
use Rattle.std.proofs.Common.{ap}
use Rattle.records.specs.Numbers.{put}
use Rattle.records.specs.Writing.{seals_bytes}
use Rattle.outbox.proofs.Pens.{wrote_then, wrote_as}
use Rattle.outbox.proofs.certificates.ArrayOptionU6410Put.put.Goals as goal

pub returns : goal.returns
unfolding seals_bytes
returns c = wrote_then (wrote_as (ap (put 2) c.mask_of.ensures) c.in_ok-put.ensures) c.each.ensures
