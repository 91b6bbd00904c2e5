-- The certificates are read one after another, as the closure reads each.
use Rattle.std.proofs.Common.{◌≡◌, ◌+◌, arith, rules}
use Rattle.quorum.specs.Rings.{stations_of}
use Rattle.records.specs.Blanks.{blank_certificate}
use Rattle.records.specs.Reading.{certificate_size, certificate_at, listed_at}
use Rattle.reader.specs.Cursor.{list_of}
use Rattle.reader.proofs.Cursors.{with_size, value_on}
use Rattle.reader.proofs.cursor.Cursor.prepared.Goals as goal

pub returns : goal.returns
returns c =
    let read = c.several.ensures (λ bs. listed_at (stations_of c.args.ring) bs 0) (λ p q r h. with_size (certificate_size (stations_of c.args.ring)) (certificate_at (stations_of c.args.ring)) r (search rules)) in
    let at : c.u8.new.self.at ≡ c.args.self.now.at + 1 = omega (arith, c.in_ok-u8.ensures.moved) in
    let v = value_on (list_of blank_certificate 8 (λ bs. listed_at (stations_of c.args.ring) bs 0) c.from-count.result) c.u8.ensures.same at read in
    search rules
