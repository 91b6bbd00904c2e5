-- The laws of reading and writing whole records. Assumes nothing.
use Rattle.std.proofs.Common.{◌≡◌, ℕ, ◌≤◌, eqb, List, ◌++◌, length, take, Ok, Result, sym, refl, ap, ◌∙◌, subst, zero-add, arith}
use Rattle.std.proofs.lemmas.List.{take_all}
use Rattle.std.proofs.lemmas.Bool.{eqb-true, eq-eqb}
use Rattle.quorum.specs.declared.refusal.Fault.{Fault}
use Rattle.records.specs.Range.{Bytes, RightRequest, RightInform, RightArrival, RightRecord}
use Rattle.records.specs.Reading.{◌then◌, sent, mark_at, request_behind, inform_behind, arrival_behind, record_behind, first_of, whole}
use Rattle.records.specs.Writing.{mark_bytes, arrival_bytes, record_bytes}
use Rattle.records.specs.declared.marks.Mark.{Mark}
use Rattle.records.specs.declared.marks.Mark.TheVariants as mark
use Rattle.records.specs.declared.arrivals.Arrival.{Arrival}
use Rattle.records.specs.declared.arrivals.Arrival.TheVariants as arrival
use Rattle.records.specs.declared.arrivals.Record.{Record}
use Rattle.records.specs.declared.arrivals.Record.TheVariants as rec
use Rattle.codec.specs.Standing.{Stands}
use Rattle.codec.specs.Laws.{FirstBack, RecordBack, ArrivalBack, RequestBack, InformBack, FirstReads, RecordReads, ArrivalReads, RequestReads, InformReads}
use Rattle.codec.proofs.Standing.{stands_first, stands_whole}
use Rattle.codec.proofs.Steps.{ok_same, then_by, then_on, check_by, check_on}
use Rattle.codec.proofs.Rows.{Got}
use Rattle.codec.proofs.Marks.{mark_back, mark_on}
use Rattle.codec.proofs.Records.{kind, asking_bytes, telling_bytes, arrival_behind_back, arrival_behind_on, request_behind_back, request_behind_on, inform_behind_back, inform_behind_on}

-- what stands at the start is the first part of the bytes
got_first : {A : Type 0} (w : A → List ℕ) (Right : A → Type 0) (bs : List ℕ) (x : A) (end : ℕ) → Got bs 0 w Right (x, end) → Right x × (w x ≡ take end bs) × (end ≡ length (w x)) × (end ≤ length bs)
got_first w Right bs x end g =
    let s = g.1 in
    let e : end ≡ length (w x) = g.2 ∙ zero-add (length (w x)) in
    (g.0, sym (ap (λ k. take k bs) e ∙ s.there), e, omega (arith, s.inside))

-- nothing after it: the bytes are its bytes
whole_back : {A : Type 0} (w : A → List ℕ) (Right : A → Type 0) (bs : List ℕ) (got : A × ℕ) (x : A) → Got bs 0 w Right got → whole bs got ≡ Ok x → Right x × (w x ≡ bs)
whole_back w Right bs got x g e =
    check_by (eqb (length bs) got.1) got.1 _ e (λ t e₁.
    let f = got_first w Right bs got.0 got.1 g in
    let all : length bs ≤ got.1 = omega (arith, eqb-true (length bs) got.1 t) in
    subst (λ y. Right y × (w y ≡ bs)) (ok_same e₁) (f.0, f.1 ∙ take_all got.1 bs all))

whole_on : {A : Type 0} (bs : List ℕ) (x : A) → whole bs (x, length bs) ≡ Ok x
whole_on bs x = check_on (length bs) (eq-eqb (length bs) (length bs) refl) refl

-- what stations send each other, as a record
sent_back : (n : ℕ) → n ≤ 10 → (bs : List ℕ) → Bytes bs → (m : Mark) (r : Record) (end : ℕ) → Stands bs 0 (mark_bytes m) → sent (arrival_behind n bs m) ≡ Ok (r, end) → Got bs 0 record_bytes (RightRecord n) (r, end)
unfolding record_bytes
sent_back n ten bs all m r end t e =
    then_by (arrival_behind n bs m) _ e (λ q read e₁.
    subst (Got bs 0 record_bytes (RightRecord n)) (ok_same e₁) (arrival_behind_back n ten bs all m q.0 q.1 t read))

-- any record behind its mark
record_behind_back : (n : ℕ) → n ≤ 10 → (bs : List ℕ) → Bytes bs → (m : Mark) (r : Record) (end : ℕ) → Stands bs 0 (mark_bytes m) → record_behind n bs m ≡ Ok (r, end) → Got bs 0 record_bytes (RightRecord n) (r, end)
unfolding record_bytes
record_behind_back n ten bs all mark.Request r end t e =
    then_by (request_behind bs mark.Request) _ e (λ q read e₁.
    subst (Got bs 0 record_bytes (RightRecord n)) (ok_same e₁) (request_behind_back bs all mark.Request q.0 q.1 t read))
record_behind_back n ten bs all mark.Inform r end t e =
    then_by (inform_behind bs mark.Inform) _ e (λ q read e₁.
    subst (Got bs 0 record_bytes (RightRecord n)) (ok_same e₁) (inform_behind_back bs all mark.Inform q.0 q.1 t read))
record_behind_back n ten bs all mark.Propose r end t e = sent_back n ten bs all mark.Propose r end t e
record_behind_back n ten bs all mark.Prepare r end t e = sent_back n ten bs all mark.Prepare r end t e
record_behind_back n ten bs all mark.CheckCommit r end t e = sent_back n ten bs all mark.CheckCommit r end t e
record_behind_back n ten bs all mark.Failure r end t e = sent_back n ten bs all mark.Failure r end t e
record_behind_back n ten bs all mark.ViewState r end t e = sent_back n ten bs all mark.ViewState r end t e
record_behind_back n ten bs all mark.NewView r end t e = sent_back n ten bs all mark.NewView r end t e

-- the mark of a record
abbrev record_kind : Record → Mark
record_kind (rec.Request r) = mark.Request
record_kind (rec.Inform i) = mark.Inform
record_kind (rec.Arrival a) = kind a

-- any record is read as what stations send each other is
sent_on : (n : ℕ) (bs : List ℕ) (a : Arrival) (end : ℕ) → arrival_behind n bs (kind a) ≡ Ok (a, end) → record_behind n bs (kind a) ≡ Ok (rec.Arrival a, end)
sent_on n bs (arrival.Propose p) end e = then_on _ e refl
sent_on n bs (arrival.Prepare p) end e = then_on _ e refl
sent_on n bs (arrival.CheckCommit c) end e = then_on _ e refl
sent_on n bs (arrival.Failure f) end e = then_on _ e refl
sent_on n bs (arrival.ViewState s) end e = then_on _ e refl
sent_on n bs (arrival.NewView v) end e = then_on _ e refl

record_behind_on : (n : ℕ) → n ≤ 10 → (bs : List ℕ) (r : Record) → RightRecord n r → Stands bs 0 (record_bytes r) → Stands bs 0 (mark_bytes (record_kind r)) × (record_behind n bs (record_kind r) ≡ Ok (r, length (record_bytes r)))
unfolding record_bytes
record_behind_on n ten bs (rec.Request r) h s = let b = request_behind_on bs r h s in (b.0, then_on _ b.1 refl)
record_behind_on n ten bs (rec.Inform i) h s = let b = inform_behind_on bs i h s in (b.0, then_on _ b.1 refl)
record_behind_on n ten bs (rec.Arrival a) h s =
    let b = arrival_behind_on n ten bs a h s in (b.0, sent_on n bs a (length (arrival_bytes a)) b.1)

pub first_back : FirstBack
first_back n low ten bs all r end e =
    then_by (mark_at bs) _ e (λ m read e₁.
    got_first record_bytes (RightRecord n) bs r end
    (record_behind_back n ten bs all m r end (mark_back bs all m read) e₁))

pub record_back : RecordBack
record_back n low ten bs all r e =
    then_by (first_of n bs) _ e (λ got first e₂.
    then_by (mark_at bs) _ first (λ m read-m read.
    whole_back record_bytes (RightRecord n) bs got r
    (record_behind_back n ten bs all m got.0 got.1 (mark_back bs all m read-m) read) e₂))

-- one record and no more, behind its mark
only_back : {A : Type 0} (behind : Mark → Result (A × ℕ) Fault) (w : A → List ℕ) (Right : A → Type 0) (bs : List ℕ) → Bytes bs → ((m : Mark) (x : A) (end : ℕ) → Stands bs 0 (mark_bytes m) → behind m ≡ Ok (x, end) → Got bs 0 w Right (x, end)) → (x : A) → (mark_at bs then (λ m. behind m then (λ got. whole bs got))) ≡ Ok x → Right x × (w x ≡ bs)
only_back behind w Right bs all back x e =
    then_by (mark_at bs) _ e (λ m read-m e₁.
    then_by (behind m) _ e₁ (λ got read e₂.
    whole_back w Right bs got x (back m got.0 got.1 (mark_back bs all m read-m) read) e₂))

pub arrival_back : ArrivalBack
arrival_back n low ten bs all =
    only_back (arrival_behind n bs) arrival_bytes (RightArrival n) bs all (arrival_behind_back n ten bs all)

pub request_back : RequestBack
request_back bs all = only_back (request_behind bs) asking_bytes RightRequest bs all (request_behind_back bs all)

pub inform_back : InformBack
inform_back bs all = only_back (inform_behind bs) telling_bytes RightInform bs all (inform_behind_back bs all)

pub first_reads : FirstReads
first_reads n low ten r rest h =
    let b = record_behind_on n ten (record_bytes r ++ rest) r h (stands_first (record_bytes r) rest) in
    then_on _ (mark_on (record_bytes r ++ rest) (record_kind r) b.0) b.1

pub record_reads : RecordReads
record_reads n low ten r h =
    let b = record_behind_on n ten (record_bytes r) r h (stands_whole (record_bytes r)) in
    let first : first_of n (record_bytes r) ≡ Ok (r, length (record_bytes r)) =
    then_on _ (mark_on (record_bytes r) (record_kind r) b.0) b.1 in
    then_on _ first (whole_on (record_bytes r) r)

only_reads : {A : Type 0} (behind : Mark → Result (A × ℕ) Fault) (bs : List ℕ) (x : A) (m : Mark) → Stands bs 0 (mark_bytes m) × (behind m ≡ Ok (x, length bs)) → (mark_at bs then (λ m. behind m then (λ got. whole bs got))) ≡ Ok x
only_reads behind bs x m b = then_on _ (mark_on bs m b.0) (then_on _ b.1 (whole_on bs x))

pub arrival_reads : ArrivalReads
arrival_reads n low ten a h =
    let bs : List ℕ = arrival_bytes a in
    only_reads (arrival_behind n bs) bs a (kind a) (arrival_behind_on n ten bs a h (stands_whole bs))

pub request_reads : RequestReads
request_reads r h =
    let bs : List ℕ = asking_bytes r in
    only_reads (request_behind bs) bs r mark.Request (request_behind_on bs r h (stands_whole bs))

pub inform_reads : InformReads
inform_reads i h =
    let bs : List ℕ = telling_bytes i in
    only_reads (inform_behind bs) bs i mark.Inform (inform_behind_on bs i h (stands_whole bs))
