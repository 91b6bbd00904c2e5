-- The answer is what the closure reads; the laws of the format say the rest.
use Rattle.std.proofs.Common.{sym, ◌∙◌, rules}
use Rattle.records.specs.Reading.{mark_at, record_behind, whole}
use Rattle.quorum.specs.Rings.{stations_of}
use Rattle.reader.proofs.Cursors.{then_then}
use Rattle.reader.proofs.Backs.{all_bytes, record_from}
use Rattle.reader.proofs.reading.read_record.Goals as goal

pub returns : goal.returns
returns c =
    let v = c.whole.ensures (record_behind (stations_of c.args.ring)) (λ p q m r h e. search rules) ∙ sym (then_then (mark_at c.args.bytes.now) (record_behind (stations_of c.args.ring) c.args.bytes.now) (whole c.args.bytes.now)) in
    record { value = v; back = record_from _ c.args.ring.some c.args.ring.few c.args.bytes.now (all_bytes c.args.bytes.now c.type_inv.bytes) c.whole.result v }
