-- On every way out without the seal the fill is put back.
use Rattle.std.proofs.Common.{rules}
use Rattle.outbox.proofs.Pens.{sent_whole, sent_none}
use Rattle.outbox.proofs.sending.send_sealed.Goals as goal

pub returns-in_err-put_sealed : goal.returns-in_err-put_sealed
returns-in_err-put_sealed g c tag only = record {
  same = search rules;
  long = let w = (c.in_err-put_sealed.ensures.wrote tag only).written.long in search rules;
  sent = sent_none (c.in_err-put_sealed.ensures.wrote tag only) c.from_residual.ensures.1 (search rules) c.drop-draft.ensures;
}

pub returns : goal.returns
returns g c tag only = record {
  same = search rules;
  long = let w = (c.in_ok-put_sealed.ensures.wrote tag only).written.long in search rules;
  sent = sent_whole (c.in_ok-put_sealed.ensures.wrote tag only) (search rules) (search rules);
}
