-- The covered part, what stands behind it and the seal follow one another.
use Rattle.std.proofs.Common.{◌≡◌, ℕ, ◌++◌, sym, refl, ap, ◌∙◌}
use Rattle.records.specs.Numbers.{put}
use Rattle.records.specs.Statements.{Statement, statement_of, said_bytes, covered, rest_bytes, under_seal}
use Rattle.records.specs.Writing.{record_bytes}
use Rattle.records.specs.declared.arrivals.Record.{Record}
use Rattle.records.proofs.Covered.{split_under}
use Rattle.outbox.proofs.Pens.{wrote_then, wrote_fault, wrote_as, wrote_seen}
use Rattle.outbox.proofs.sending.put_sealed.Goals as goal

whole : (r : Record) (said : Statement) (given tag : ℕ) → said ≡ statement_of r → given ≡ tag → said_bytes said ++ (rest_bytes r ++ put 8 given) ≡ record_bytes (under_seal r tag)
whole r said given tag says is =
    ap (λ s. said_bytes s ++ (rest_bytes r ++ put 8 given)) says
    ∙ ap (λ n. covered r ++ (rest_bytes r ++ put 8 n)) is
    ∙ sym (split_under r tag)

pub returns-in_err-put-clause-wrote : goal.returns-in_err-put-clause-wrote
returns-in_err-put-clause-wrote g c tag only =
    wrote_as (whole c.args.message.now _ tag tag c.said.ensures refl) (wrote_fault _ c.in_err-put.ensures c.from_residual.ensures.1)

pub returns-in_err-put_rest-clause-wrote : goal.returns-in_err-put_rest-clause-wrote
returns-in_err-put_rest-clause-wrote g c tag only =
    wrote_as (whole c.args.message.now _ tag tag c.said.ensures refl)
    (wrote_then c.in_ok-put.ensures (wrote_fault _ c.in_err-put_rest.ensures c.from_residual-in_err-put_rest.ensures.1))

pub returns-clause-wrote : goal.returns-clause-wrote
returns-clause-wrote g c tag only =
    let seen = c.since.ensures ∙ wrote_seen c.in_ok-put.ensures ∙ ap said_bytes c.said.ensures in
    wrote_as (whole c.args.message.now _ c.seal-tag.result tag c.said.ensures (only c.since.result c.seal-tag.result c.seal-tag.ensures seen))
    (wrote_then c.in_ok-put.ensures (wrote_then c.in_ok-put_rest.ensures c.put-2.ensures))
