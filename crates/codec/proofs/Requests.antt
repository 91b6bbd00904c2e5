-- Requests and proposals: what is read stands there as its bytes, and what stands there in range is read. Assumes nothing.
use Rattle.std.proofs.Common.{◌≡◌, ℕ, ◌+◌, leb, List, ◌++◌, length, Ok, refl, subst, arith, length-append}
use Rattle.std.proofs.lemmas.Bool.{leb-true, le-leb}
use Rattle.records.specs.Numbers.{put}
use Rattle.records.specs.Range.{Bytes, RightRequest, RightProposal}
use Rattle.records.specs.Reading.{part_at, number_at, view_at, request_at, proposal_at, last_view}
use Rattle.records.specs.Writing.{asked_bytes, request_bytes, proposal_bytes}
use Rattle.records.specs.declared.request.Request.{Request}
use Rattle.records.specs.declared.request.Proposal.{Proposal}
use Rattle.codec.specs.Standing.{Stands}
use Rattle.codec.proofs.Numbers.{put_length}
use Rattle.codec.proofs.Standing.{stands_join, stands_split, put_join, put_split}
use Rattle.codec.proofs.Steps.{ok_same, then_ok, then_on, check_ok, check_on, part_back, part_on, number_back, number_on, view_back, view_on}

pub asked_length : (r : Request) → length r.payload.bytes ≡ 16 → length (asked_bytes r) ≡ 22
unfolding asked_bytes
asked_length r h = simp (length-append, put_length) (omega arith)

pub request_length : (r : Request) → RightRequest r → length (request_bytes r) ≡ 30
unfolding request_bytes
request_length r h = let a = asked_length r h.payload_long in simp (length-append, put_length) (omega arith)

pub proposal_length : (p : Proposal) → RightProposal p → length (proposal_bytes p) ≡ 38
unfolding proposal_bytes
proposal_length p h = let r = request_length p.request h.request_right in simp (length-append, put_length) (omega arith)

pub request_back : (bs : List ℕ) (at : ℕ) (r : Request) → Bytes bs → request_at bs at ≡ Ok r → RightRequest r × Stands bs at (request_bytes r)
unfolding request_bytes asked_bytes
request_back bs at r all e =
    let a = then_ok (number_at 2 bs at) _ e in
    let a-low = check_ok (leb 1000 a.0) at _ a.2 in
    let b = then_ok (number_at 4 bs (at + 2)) _ a-low.1 in
    let b-low = check_ok (leb 1 b.0) (at + 2) _ b.2 in
    let c = then_ok (part_at 16 bs (at + 6)) _ b-low.1 in
    let d = then_ok (number_at 8 bs (at + 22)) _ c.2 in
    let client = number_back 2 bs at a.0 all a.1 in
    let sequence = number_back 4 bs (at + 2) b.0 all b.1 in
    let payload = part_back 16 bs (at + 6) c.0 all c.1 in
    let seal = number_back 8 bs (at + 22) d.0 all d.1 in
    let l : length (put 2 a.0 ++ (put 4 b.0 ++ c.0)) ≡ 22 = simp (length-append, put_length) (omega (arith, payload.0)) in
    subst (λ r. RightRequest r × Stands bs at (request_bytes r)) (ok_same d.2) (
      record {
        client_low = leb-true 1000 a.0 a-low.0;
        client_fits = client.0;
        sequence_low = leb-true 1 b.0 b-low.0;
        sequence_fits = sequence.0;
        payload_long = payload.0;
        payload_bytes = payload.1;
        seal_fits = seal.0;
      },
      stands_join (put_join 2 a.0 client.1 (put_join 4 b.0 sequence.1 payload.2 (omega arith)) refl) seal.1 (omega arith),
    )

pub request_on : (bs : List ℕ) (at : ℕ) (r : Request) → RightRequest r → Stands bs at (request_bytes r) → request_at bs at ≡ Ok r
unfolding request_bytes asked_bytes
request_on bs at r h s =
    let rest : List ℕ = put 4 r.sequence ++ r.payload.bytes in
    let l : length (put 2 r.client ++ rest) ≡ 22 = asked_length r h.payload_long in
    let a = stands_split (put 2 r.client ++ rest) (put 8 r.seal) (at + 22) (omega arith) s in
    let b = put_split 2 r.client rest (at + 2) refl a.0 in
    let c = put_split 4 r.sequence r.payload.bytes (at + 6) (omega arith) b.1 in
    then_on _ (number_on 2 bs at r.client h.client_fits b.0)
    (check_on at (le-leb 1000 r.client h.client_low)
    (then_on _ (number_on 4 bs (at + 2) r.sequence h.sequence_fits c.0)
    (check_on (at + 2) (le-leb 1 r.sequence h.sequence_low)
    (then_on _ (part_on 16 bs (at + 6) r.payload.bytes h.payload_long c.1)
    (then_on _ (number_on 8 bs (at + 22) r.seal h.seal_fits a.1)
    refl)))))

pub proposal_back : (bs : List ℕ) (at : ℕ) (p : Proposal) → Bytes bs → proposal_at bs at ≡ Ok p → RightProposal p × Stands bs at (proposal_bytes p)
unfolding proposal_bytes
proposal_back bs at p all e =
    let a = then_ok (view_at 0 last_view bs at) _ e in
    let b = then_ok (number_at 4 bs (at + 4)) _ a.2 in
    let c = then_ok (request_at bs (at + 8)) _ b.2 in
    let view = view_back 0 last_view bs at a.0 all a.1 in
    let round = number_back 4 bs (at + 4) b.0 all b.1 in
    let request = request_back bs (at + 8) c.0 all c.1 in
    subst (λ p. RightProposal p × Stands bs at (proposal_bytes p)) (ok_same c.2) (
      record { view_high = view.1; round_fits = round.0; request_right = request.0 },
      put_join 4 a.0 view.2 (put_join 4 b.0 round.1 request.1 (omega arith)) refl,
    )

pub proposal_on : (bs : List ℕ) (at : ℕ) (p : Proposal) → RightProposal p → Stands bs at (proposal_bytes p) → proposal_at bs at ≡ Ok p
unfolding proposal_bytes
proposal_on bs at p h s =
    let a = put_split 4 p.view (put 4 p.round ++ request_bytes p.request) (at + 4) refl s in
    let b = put_split 4 p.round (request_bytes p.request) (at + 8) (omega arith) a.1 in
    then_on _ (view_on 0 last_view bs at p.view (omega arith) h.view_high (omega arith) a.0)
    (then_on _ (number_on 4 bs (at + 4) p.round h.round_fits b.0)
    (then_on _ (request_on bs (at + 8) p.request h.request_right b.1)
    refl))
