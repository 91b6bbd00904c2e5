-- A record under its own seal is the record itself.
use Rattle.std.proofs.Common.{rules, ◌≡◌, sym, ◌∙◌}
use Rattle.records.specs.Statements.{own_seal, under_seal}
use Rattle.records.specs.Writing.{record_bytes}
use Rattle.records.specs.declared.arrivals.Record.{Record}
use Rattle.records.proofs.Covered.{split_own, split_under}
use Rattle.outbox.proofs.Back.{sent_as, sent_back}
use Rattle.outbox.proofs.sending.write.Goals as goal

own : (r : Record) → record_bytes (under_seal r (own_seal r)) ≡ record_bytes r
own r = split_under r (own_seal r) ∙ sym (split_own r)

pub returns-clause-sent : goal.returns-clause-sent
returns-clause-sent c = sent_as (own c.args.message.now) (c.send_sealed.ensures (own_seal c.args.message.now) (search rules))

pub returns-clause-back : goal.returns-clause-back
returns-clause-back c = sent_back c.args.message.now _ (returns-clause-sent c).sent
