-- The answer is what the closure reads; the laws of the format say the rest.
use Rattle.std.proofs.Common.{rules}
use Rattle.records.specs.Reading.{arrival_behind}
use Rattle.quorum.specs.Rings.{stations_of}
use Rattle.reader.proofs.Backs.{all_bytes, arrival_from}
use Rattle.reader.proofs.reading.read_arrival.Goals as goal

pub returns : goal.returns
returns c =
    let v = c.whole.ensures (arrival_behind (stations_of c.args.ring)) (λ p q m r h e. search rules) in
    record { value = v; back = arrival_from _ c.args.ring.some c.args.ring.few c.args.bytes.now (all_bytes c.args.bytes.now c.type_inv.bytes) c.whole.result v }
