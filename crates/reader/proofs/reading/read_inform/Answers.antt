-- The answer is what the closure reads; the laws of the format say the rest.
use Rattle.std.proofs.Common.{rules}
use Rattle.records.specs.Reading.{inform_behind}
use Rattle.reader.proofs.Backs.{all_bytes, inform_from}
use Rattle.reader.proofs.reading.read_inform.Goals as goal

pub returns : goal.returns
returns c =
    let v = c.whole.ensures inform_behind (λ p q m r h e. search rules) in
    record { value = v; back = inform_from c.args.bytes.now (all_bytes c.args.bytes.now c.type_inv.bytes) c.whole.result v }
