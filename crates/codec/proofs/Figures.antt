-- The figures: the size of a certificate, and the largest new view. Assumes nothing.
use Rattle.std.proofs.Common.{◌≡◌, ℕ, ◌+◌, ◌*◌, ◌^◌, ◌<◌, ◌≤◌, List, ◌++◌, length, replicate, Some, None, Option, refl, ◌∙◌, arith, length-append}
use Rattle.std.specs.List.{flat_map, AllByRecursion}
use Rattle.std.proofs.lemmas.List.{get_or_past}
use Rattle.std.proofs.ByRecursion.{All-weaker, sum_by_le}
use Rattle.std.proofs.lemmas.List.Concat.{length-flat_map}
use Rattle.std.proofs.lemmas.List.Elements.{All-replicate, recursion_from_All}
use Rattle.std.proofs.lemmas.List.Folds.{sum_by-replicate}
use Rattle.records.specs.Lists.{listed}
use Rattle.records.specs.Range.{Byte, RightRequest, RightCertificate, RightCommit, RightState, RightNewView}
use Rattle.records.specs.Writing.{certificate_bytes, commit_bytes, prepared_bytes, state_bytes, new_view_body, body_bytes, arrival_bytes, record_bytes, check_commit_body, failure_body, states_bytes}
use Rattle.records.specs.declared.request.Request.{Request}
use Rattle.records.specs.declared.certificate.Certificate.{Certificate}
use Rattle.records.specs.declared.arrivals.ViewState.{ViewState}
use Rattle.records.specs.declared.arrivals.NewView.{NewView}
use Rattle.codec.specs.Laws.{ViewMost, ViewLargest, view_bytes}
use Rattle.codec.proofs.Numbers.{put_length, sealed_length}
use Rattle.codec.proofs.Certificates.{certificate_length}
use Rattle.codec.proofs.States.{state_length}
use Rattle.codec.proofs.Records.{view_body, view_length}

-- values of at most b bytes each
joined_most : {A : Type 0} (w : A → List ℕ) (b : ℕ) (xs : List A) → AllByRecursion (λ x. length (w x) ≤ b) xs → length (flat_map w xs) ≤ length xs * b
joined_most w b xs h = omega (arith, length-flat_map w xs, sum_by_le (λ x. length (w x)) b xs h)

-- one value k times
joined_same : {A : Type 0} (w : A → List ℕ) (k : ℕ) (x : A) → length (flat_map w (replicate k x)) ≡ k * length (w x)
joined_same w k x = length-flat_map w (replicate k x) ∙ sum_by-replicate (λ y. length (w y)) k x

prepared_length : (cs : List Certificate) → length (prepared_bytes cs) ≡ 1 + length (flat_map certificate_bytes cs)
unfolding prepared_bytes
prepared_length cs = simp (length-append, put_length)

commit_most : (n : ℕ) → n ≤ 10 → (o : Option Certificate) → RightCommit n o → length (commit_bytes o) ≤ 97
unfolding commit_bytes
commit_most n ten None h = simp put_length (omega arith)
commit_most n ten (Some c) h = simp (length-append, put_length) (omega (arith, certificate_length n c h))

pub state_most : (n : ℕ) → n ≤ 10 → (s : ViewState) → RightState n s → length (state_bytes s) ≤ 881
state_most n ten s h =
    let l = state_length s in
    let c = commit_most n ten s.commit h.commit_right in
    let p = prepared_length (listed s.prepared) in
    let each : AllByRecursion (λ c. length (certificate_bytes c) ≤ 96) (listed s.prepared) =
    All-weaker (RightCertificate n) (λ c. length (certificate_bytes c) ≤ 96)
    (λ c r. let k = certificate_length n c r in omega arith) (listed s.prepared) h.prepared_right in
    let j = joined_most certificate_bytes 96 (listed s.prepared) each in
    let few = h.prepared_few in
    omega arith

new_view_length : (v : NewView) → length (view_bytes v) ≡ 16 + length (flat_map state_bytes (listed v.states))
unfolding record_bytes arrival_bytes body_bytes new_view_body check_commit_body failure_body states_bytes
new_view_length v =
    let body : List ℕ = view_body v.sender v.view (listed v.states) in
    omega (arith, view_length v.sender v.view (listed v.states), sealed_length body v.seal)

pub view_most : ViewMost
view_most n low ten v h =
    let l = new_view_length v in
    let each = All-weaker (RightState n) (λ s. length (state_bytes s) ≤ 881) (λ s r. state_most n ten s r) (listed v.states) h.states_right in
    let j = joined_most state_bytes 881 (listed v.states) each in
    let many = h.states_many in
    omega arith

-- a new view of ten stations that has every part at its largest
abbrev big_request : Request
big_request = record { client = 1000; sequence = 1; payload = record { bytes = replicate 16 0 }; seal = 0 }

abbrev big_certificate : Certificate
big_certificate = record {
  proposal = record { view = 0; round = 0; request = big_request };
  seals = replicate 7 (Some 0) ++ replicate 3 None;
}

abbrev big_state : ViewState
big_state = record {
  sender = 0;
  view = 0;
  commit = Some big_certificate;
  prepared = record { items = replicate 8 big_certificate; len = 8 };
  seal = 0;
}

abbrev big_view : NewView
big_view = record { sender = 0; view = 1; states = record { items = replicate 7 big_state; len = 7 }; seal = 0 }

-- it holds of each, where they are all one value
all_same : {A : Type 0} (P : A → Type 0) (k : ℕ) (x : A) → P x → AllByRecursion P (replicate k x)
all_same P k x h = recursion_from_All P (replicate k x) (All-replicate P k x h)

big_request_right : RightRequest big_request
big_request_right = record {
  client_low = omega arith;
  client_fits = omega arith;
  sequence_low = omega arith;
  sequence_fits = omega arith;
  payload_long = refl;
  payload_bytes = all_same Byte 16 0 (omega arith);
  seal_fits = omega arith;
}

big_certificate_right : RightCertificate 10 big_certificate
big_certificate_right = record {
  proposal_right = record { view_high = omega arith; round_fits = omega arith; request_right = big_request_right };
  ten = refl;
  seals_right = (z, (z, (z, (z, (z, (z, (z, (tt, (tt, (tt, tt))))))))));
  quorate = refl;
  inside = λ i l. get_or_past big_certificate.seals i None l;
}
  where
    z : 0 < 256 ^ 8
    z = omega arith

big_state_right : RightState 10 big_state
big_state_right =
    let c = big_certificate_right in record {
      sender_fits = omega arith;
      view_high = omega arith;
      commit_right = c;
      prepared_packed = refl;
      prepared_few = omega arith;
      prepared_right = all_same (RightCertificate 10) 8 big_certificate c;
      seal_fits = omega arith;
    }

big_view_right : RightNewView 10 big_view
big_view_right =
    let s = big_state_right in record {
      sender_fits = omega arith;
      view_low = omega arith;
      view_high = omega arith;
      states_packed = refl;
      states_many = refl;
      states_right = all_same (RightState 10) 7 big_state s;
      seal_fits = omega arith;
    }

big_commit_length : length (commit_bytes (Some big_certificate)) ≡ 97
unfolding commit_bytes
big_commit_length =
    simp (length-append, put_length) (omega (arith, certificate_length 10 big_certificate big_certificate_right))

big_state_length : length (state_bytes big_state) ≡ 881
big_state_length =
    omega (
      arith,
      certificate_length 10 big_certificate big_certificate_right,
      joined_same certificate_bytes 8 big_certificate,
      prepared_length (replicate 8 big_certificate),
      big_commit_length,
      state_length big_state,
    )

pub view_largest : ViewLargest
view_largest = (big_view, big_view_right, omega (arith, big_state_length, joined_same state_bytes 7 big_state, new_view_length big_view))
