-- What was sent reads back.
use Rattle.std.proofs.Common.{rules}
use Rattle.records.specs.Statements.{covered, under_seal}
use Rattle.outbox.proofs.Back.{sent_back}
use Rattle.outbox.proofs.sending.send.Goals as goal

pub returns-clause-back : goal.returns-clause-back
returns-clause-back g c =
    sent_back (under_seal c.args.message.now (g.B.SealBox.tag c.args.seals.now (covered c.args.message.now))) _ (c.send_sealed.ensures _ (search rules)).sent
