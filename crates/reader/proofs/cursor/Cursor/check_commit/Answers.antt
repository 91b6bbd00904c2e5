-- The certificate stands behind the sender.
use Rattle.std.proofs.Common.{◌≡◌, arith, rules}
use Rattle.quorum.specs.Rings.{stations_of}
use Rattle.records.specs.Reading.{certificate_at}
use Rattle.reader.proofs.Cursors.{value_at}
use Rattle.reader.proofs.cursor.Cursor.check_commit.Goals.{After-certificate}
use Rattle.reader.proofs.cursor.Cursor.check_commit.Goals as goal

prepared_read : (c : After-certificate) → c.args.self.now.at ≡ 2 → (c.u8.new.self.at ≡ 3) × (c.certificate.result ≡ certificate_at (stations_of c.args.ring) c.args.self.now.bytes.now 3)
prepared_read c e =
    let at : c.u8.new.self.at ≡ 3 = omega (arith, e, c.in_ok-sender.ensures.moved) in
    (at, value_at (certificate_at (stations_of c.args.ring)) c.u8.ensures.same at c.certificate.ensures)

pub returns-in_err-prepared : goal.returns-in_err-prepared
returns-in_err-prepared c e = let p = prepared_read (goal.at.returns-in_err-prepared c).After-certificate e in search rules

pub returns-in_err-seal : goal.returns-in_err-seal
returns-in_err-seal c e = let p = prepared_read (goal.at.returns-in_err-seal c).After-certificate e in search rules

pub returns : goal.returns
returns c e = let p = prepared_read (goal.at.returns c).After-certificate e in search rules
