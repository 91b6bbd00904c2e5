-- The laws of the format say the rest.
use Rattle.std.proofs.Common.{◌≡◌, Ok, rules}
use Rattle.quorum.specs.Rings.{stations_of}
use Rattle.records.specs.Reading.{first_of}
use Rattle.reader.proofs.Backs.{all_bytes, first_from}
use Rattle.reader.proofs.reading.first_record.Goals as goal

pub returns-clause-back : goal.returns-clause-back
returns-clause-back c =
    let v : Ok (c.in_ok-record.record, c.place.result) ≡ first_of (stations_of c.args.ring) c.args.bytes.now = search rules in
    first_from _ c.args.ring.some c.args.ring.few c.args.bytes.now (all_bytes c.args.bytes.now c.type_inv.bytes) _ v
