-- The answer is what the closure reads; the laws of the format say the rest.
use Rattle.std.proofs.Common.{rules}
use Rattle.records.specs.Reading.{request_behind}
use Rattle.reader.proofs.Backs.{all_bytes, request_from}
use Rattle.reader.proofs.reading.read_request.Goals as goal

pub returns : goal.returns
returns c =
    let v = c.whole.ensures request_behind (λ p q m r h e. search rules) in
    record { value = v; back = request_from c.args.bytes.now (all_bytes c.args.bytes.now c.type_inv.bytes) c.whole.result v }
