-- After i stations the array holds what was read, and the cursor stands behind it.
use Rattle.std.proofs.Common.{◌≡◌, None}
use Rattle.records.specs.Reading.{slot_at}
use Rattle.records.proofs.Several.{Gathered}
use Rattle.reader.proofs.cursor.Cursor.seals.Given as goal

abbrev pub invariant-loop-i : goal.invariant-loop-i
invariant-loop-i l = record {
  same : l.self.bytes ≡ l.fn.self.bytes;
  got : Gathered (slot_at l.fn.self.bytes.now l.mask) None 10 l.fn.self.at l.i l.seal-items l.self.at;
}
