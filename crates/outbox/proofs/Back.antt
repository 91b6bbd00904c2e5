-- What was sent into a tray reads back. Assumes nothing.
use Rattle.std.proofs.Common.{◌≡◌, ℕ, ◌+◌, ◌≤◌, List, length, take, drop, Ok, Err, Result, ap, ◌∙◌, subst, arith}
use Rattle.std.specs.List.{between}
use Rattle.std.proofs.lemmas.List.{length-take-le, drop_at}
use Rattle.std.proofs.lemmas.Slice.{between_is}
use Rattle.std.proofs.lemmas.Bool.Decides.{nat_tests}
use Rattle.records.specs.Reading.{record_of}
use Rattle.records.specs.Writing.{record_bytes}
use Rattle.records.specs.declared.arrivals.Record.{Record}
use Rattle.codec.proofs.Laws.{record_reads}
use Rattle.quorum.specs.declared.refusal.Fault.{Fault}
use Rattle.outbox.specs.Trays.{Sent, SentInto, ReadsBack}
use Rattle.outbox.specs.declared.tray.Tray.{Tray}

-- what was sent is what the tray shows from the old fill to the new, so it reads back
pub sent_back : {m m₁ : List ℕ} {used used' : ℕ} (sent : Record) (r : Result (Unit {0}) Fault) → Sent m m₁ used used' (record_bytes sent) r → ReadsBack m₁ used used' sent r
sent_back {m} {m₁} {used} {used'} sent (Ok u) s = λ n some few right.
    let fits : used + length (record_bytes sent) ≤ length m = let a = s.answered in grind (arith, nat_tests) in
    let ends : used' ≡ used + length (record_bytes sent) = let f = s.filled in grind (arith, nat_tests) in
    let at_long : length (take used m) ≡ used = length-take-le used m (omega arith) in
    let shown : between used used' m₁ ≡ record_bytes sent =
    between_is m₁ used used'
    ∙ ap (λ k. drop used (take k m₁)) ends
    ∙ ap (drop used) (s.added fits)
    ∙ drop_at (take used m) (record_bytes sent) used at_long in
    ap (record_of n) shown ∙ record_reads n some few sent right
sent_back sent (Err f) s = tt

-- the same bytes by another name
pub sent_as : {before after : Tray} {xs ys : List ℕ} {r : Result (Unit {0}) Fault} → xs ≡ ys → SentInto before after xs r → SentInto before after ys r
sent_as {before} {after} {xs} {ys} {r} e s = subst (λ bs. SentInto before after bs r) e s
