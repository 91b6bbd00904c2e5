-- A mask of the ring's stations shows none past the tenth, and the seals begin behind it.
use Rattle.std.proofs.Common.{◌≡◌, ◌+◌, ◌∙◌, arith, rules}
use Rattle.records.specs.Reading.{seals_at}
use Rattle.reader.proofs.Cursors.{value_at}
use Rattle.reader.proofs.Seals.{mask_ten}
use Rattle.reader.proofs.cursor.Cursor.certificate.Goals.{After-seals}
use Rattle.reader.proofs.cursor.Cursor.certificate.Goals as goal

pub seals-requires : goal.seals-requires
seals-requires c = mask_ten c.stations.result c.in_ok-mask.mask (rw c.stations.ensures c.args.ring.few) c.if-mask-stations-ne0.false

seals_read : (c : After-seals) → c.seals.result ≡ seals_at c.args.self.now.bytes.now c.in_ok-mask.mask (c.args.self.now.at + 40)
seals_read c =
    value_at (λ bs at. seals_at bs c.in_ok-mask.mask at) (c.u16.ensures.same ∙ c.proposal.ensures.same)
    (omega (arith, c.in_ok-proposal.ensures.moved, c.in_ok-mask.ensures.moved)) c.seals.ensures

pub returns-in_err-seals : goal.returns-in_err-seals
returns-in_err-seals c = let s = seals_read (goal.at.returns-in_err-seals c).After-seals in search rules

pub returns : goal.returns
returns c = let s = seals_read (goal.at.returns c).After-seals in search rules
