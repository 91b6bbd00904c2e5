-- The part that is handed out is the first whole record.
use Rattle.std.proofs.Common.{sym, ap, ◌∙◌}
use Rattle.quorum.specs.Rings.{seen}
use Rattle.reader.proofs.Backs.{frame_made}
use Rattle.reader.proofs.framing.frame.Goals as goal

pub returns : goal.returns
returns c =
    frame_made c.args.stations _ c.args.bytes.now _ c.in_ok-end.end (ap seen (sym c.in_ok-ring.was) ∙ c.new.ensures)
    (sym c.first_record.ensures.value ∙ c.in_ok-end.was)
