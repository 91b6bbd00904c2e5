-- Whole records behind their marks: what is read stands there from the first byte on, and what stands there is read.
-- Assumes nothing.
use Rattle.std.proofs.Common.{◌≡◌, ℕ, ◌+◌, ◌<◌, ◌≤◌, eqb, List, ◌++◌, length, Ok, sym, refl, ap, ◌∙◌, subst, zero-add, arith, length-append}
use Rattle.std.specs.List.{flat_map, AllByRecursion}
use Rattle.std.proofs.lemmas.List.{append_assoc}
use Rattle.std.proofs.lemmas.Bool.{eqb-true, eq-eqb}
use Rattle.records.specs.Lists.{listed, filled}
use Rattle.records.specs.Blanks.{blank_state}
use Rattle.records.specs.declared.few.Few.{Few}
use Rattle.quorum.specs.Figures.{quorum_of}
use Rattle.records.specs.Numbers.{put}
use Rattle.records.specs.Range.{Packed, Bytes, Fits, RightRequest, RightProposal, RightState, RightClaim, RightInform, RightArrival}
use Rattle.records.specs.Reading.{number_at, view_at, request_at, proposal_at, certificate_at, certificate_size, several, member_at, members_at, state_at, claim_in, check_commit_in, inform_in, failure_in, new_view_in, request_behind, inform_behind, arrival_behind, last_view}
use Rattle.records.specs.Writing.{mark_bytes, head_bytes, request_bytes, proposal_bytes, seals_bytes, certificate_bytes, claim_bytes, state_body, state_bytes, new_view_body, body_bytes, inform_body, arrival_bytes, record_bytes, check_commit_body, failure_body, states_bytes}
use Rattle.records.specs.declared.marks.Mark.{Mark}
use Rattle.records.specs.declared.marks.Mark.TheVariants as mark
use Rattle.records.specs.declared.request.Request.{Request}
use Rattle.records.specs.declared.request.Proposal.{Proposal}
use Rattle.records.specs.declared.arrivals.Claim.{Claim}
use Rattle.records.specs.declared.arrivals.CheckCommit.{CheckCommit}
use Rattle.records.specs.declared.arrivals.Inform.{Inform}
use Rattle.records.specs.declared.arrivals.Failure.{Failure}
use Rattle.records.specs.declared.arrivals.ViewState.{ViewState}
use Rattle.records.specs.declared.arrivals.NewView.{NewView}
use Rattle.records.specs.declared.arrivals.Arrival.{Arrival}
use Rattle.records.specs.declared.arrivals.Arrival.TheVariants as arrival
use Rattle.records.specs.declared.arrivals.Record.TheVariants as rec
use Rattle.codec.specs.Standing.{Stands}
use Rattle.codec.proofs.Numbers.{put_length, sealed_length}
use Rattle.codec.proofs.Standing.{stands_join, stands_left, stands_split, put_join, put_split, stands_same}
use Rattle.codec.proofs.Steps.{ok_same, then_by, then_on, check_by, check_on, number_back, number_on, view_back, view_on}
use Rattle.codec.proofs.Rows.{Got, several_back, several_on, row_all, all_row}
use Rattle.codec.proofs.Marks.{mark_length, head_length, head_join, head_split}
use Rattle.codec.proofs.Requests as requests
use Rattle.codec.proofs.Requests.{request_length, proposal_length, proposal_back, proposal_on}
use Rattle.codec.proofs.Certificates.{certificate_length, certificate_back, certificate_on}
use Rattle.codec.proofs.States.{listed_filled, state_back, state_on, member_back, member_on}

pub claim_length : (m : Mark) (sender : ℕ) (p : Proposal) → RightProposal p → length (claim_bytes m sender p) ≡ 41
unfolding claim_bytes
claim_length m sender p h = simp (length-append, head_length) (omega (arith, proposal_length p h))

-- a claim and its seal as bytes
abbrev sealed_claim : Mark → Claim → List ℕ
sealed_claim m p = claim_bytes m p.sender p.proposal ++ put 8 p.seal

-- a claim after its mark
claim_back : (bs : List ℕ) → Bytes bs → (m : Mark) (p : Claim) → Stands bs 0 (mark_bytes m) → claim_in bs ≡ Ok p → Got bs 0 (sealed_claim m) (λ p. RightClaim p.sender p.proposal p.seal) (p, 49)
unfolding claim_bytes
claim_back bs all m p t e =
    then_by (number_at 1 bs 2) _ e (λ sender read-sender e₁.
    then_by (proposal_at bs 3) _ e₁ (λ q read-q e₂.
    then_by (number_at 8 bs 41) _ e₂ (λ seal read-seal e₃.
    let a = number_back 1 bs 2 sender all read-sender in
    let b = proposal_back bs 3 q all read-q in
    let c = number_back 8 bs 41 seal all read-seal in
    let l = claim_length m sender q b.0 in
    let z = sealed_length (claim_bytes m sender q) seal in
    subst (λ p. Got bs 0 (sealed_claim m) (λ p. RightClaim p.sender p.proposal p.seal) (p, 49)) (ok_same e₃) (
      record { sender_fits = a.0; proposal_right = b.0; seal_fits = c.0 },
      stands_join (head_join m sender t a.1 b.1) c.1 (omega arith),
      omega arith,
    ))))

claim_on : (bs : List ℕ) (m : Mark) (p : Claim) → RightClaim p.sender p.proposal p.seal → Stands bs 0 (sealed_claim m p) → Stands bs 0 (mark_bytes m) × (claim_in bs ≡ Ok p) × (49 ≡ length (sealed_claim m p))
unfolding claim_bytes
claim_on bs m p h s =
    let l = claim_length m p.sender p.proposal h.proposal_right in
    let z = sealed_length (claim_bytes m p.sender p.proposal) p.seal in
    let c = stands_split (claim_bytes m p.sender p.proposal) (put 8 p.seal) 41 (omega arith) s in
    let t = head_split m p.sender (proposal_bytes p.proposal) c.0 in (
      t.0,
      then_on _ (number_on 1 bs 2 p.sender h.sender_fits t.1)
          (then_on _ (proposal_on bs 3 p.proposal h.proposal_right t.2)
          (then_on _ (number_on 8 bs 41 p.seal h.seal_fits c.1) refl)),
      omega arith,
    )

-- the mark of what stations send each other
abbrev pub kind : Arrival → Mark
kind (arrival.Propose p) = mark.Propose
kind (arrival.Prepare p) = mark.Prepare
kind (arrival.CheckCommit c) = mark.CheckCommit
kind (arrival.Failure f) = mark.Failure
kind (arrival.ViewState s) = mark.ViewState
kind (arrival.NewView v) = mark.NewView

-- a certificate between a head and a seal
check_commit_back : (n : ℕ) → n ≤ 10 → (bs : List ℕ) → Bytes bs → (c : CheckCommit) → Stands bs 0 (mark_bytes mark.CheckCommit) → check_commit_in n bs ≡ Ok c → Got bs 0 arrival_bytes (RightArrival n) (arrival.CheckCommit c, 11 + certificate_size n)
unfolding arrival_bytes body_bytes claim_bytes certificate_bytes check_commit_body failure_body
check_commit_back n ten bs all c t e =
    then_by (number_at 1 bs 2) _ e (λ sender read-sender e₁.
    then_by (certificate_at n bs 3) _ e₁ (λ p read-p e₂.
    then_by (number_at 8 bs (3 + certificate_size n)) _ e₂ (λ seal read-seal e₃.
    let a = number_back 1 bs 2 sender all read-sender in
    let b = certificate_back n ten bs 3 p all read-p in
    let d = number_back 8 bs (3 + certificate_size n) seal all read-seal in
    let head : List ℕ = head_bytes mark.CheckCommit sender in
    let l₃ : length head ≡ 3 = head_length mark.CheckCommit sender in
    let k : length (proposal_bytes p.proposal ++ seals_bytes p.seals) ≡ certificate_size n = certificate_length n p b.0 in
    let l : length (head ++ (proposal_bytes p.proposal ++ seals_bytes p.seals)) ≡ length head + length (proposal_bytes p.proposal ++ seals_bytes p.seals) =
    length-append head (proposal_bytes p.proposal ++ seals_bytes p.seals) in
    let same : head ++ (proposal_bytes p.proposal ++ seals_bytes p.seals) ≡ (head ++ proposal_bytes p.proposal) ++ seals_bytes p.seals =
    sym (append_assoc head (proposal_bytes p.proposal) (seals_bytes p.seals)) in
    let l' = ap length same in
    let z = sealed_length ((head ++ proposal_bytes p.proposal) ++ seals_bytes p.seals) seal in
    let body = stands_same same (head_join mark.CheckCommit sender t a.1 b.1) in
    subst (λ c. Got bs 0 arrival_bytes (RightArrival n) (arrival.CheckCommit c, 11 + certificate_size n)) (ok_same e₃) (
      record { sender_fits = a.0; prepared_right = b.0; seal_fits = d.0 },
      stands_join body d.1 (omega arith),
      omega arith,
    ))))

check_commit_on : (n : ℕ) → n ≤ 10 → (bs : List ℕ) (c : CheckCommit) → RightArrival n (arrival.CheckCommit c) → Stands bs 0 (arrival_bytes (arrival.CheckCommit c)) → Stands bs 0 (mark_bytes mark.CheckCommit) × (arrival_behind n bs mark.CheckCommit ≡ Ok (arrival.CheckCommit c, length (arrival_bytes (arrival.CheckCommit c))))
unfolding arrival_bytes body_bytes claim_bytes certificate_bytes check_commit_body failure_body
check_commit_on n ten bs c h s =
    let p : List ℕ = proposal_bytes c.prepared.proposal in
    let q : List ℕ = seals_bytes c.prepared.seals in
    let z : List ℕ = put 8 c.seal in
    let head : List ℕ = head_bytes mark.CheckCommit c.sender in
    let l₃ : length head ≡ 3 = head_length mark.CheckCommit c.sender in
    let k : length (p ++ q) ≡ certificate_size n = certificate_length n c.prepared h.prepared_right in
    let l : length (head ++ (p ++ q)) ≡ length head + length (p ++ q) = length-append head (p ++ q) in
    let same : (head ++ p) ++ q ≡ head ++ (p ++ q) = append_assoc head p q in
    let l' : length ((head ++ p) ++ q) ≡ length (head ++ (p ++ q)) = ap length same in
    let lz : length (((head ++ p) ++ q) ++ z) ≡ length ((head ++ p) ++ q) + 8 = sealed_length ((head ++ p) ++ q) c.seal in
    let parts = stands_split ((head ++ p) ++ q) z (3 + certificate_size n) (omega arith) s in
    let t = head_split mark.CheckCommit c.sender (p ++ q) (stands_same same parts.0) in
    let end : 11 + certificate_size n ≡ length (((head ++ p) ++ q) ++ z) = omega arith in
    let read : check_commit_in n bs ≡ Ok c =
    then_on _ (number_on 1 bs 2 c.sender h.sender_fits t.1)
    (then_on _ (certificate_on n ten bs 3 c.prepared h.prepared_right t.2)
    (then_on _ (number_on 8 bs (3 + certificate_size n) c.seal h.seal_fits parts.1) refl)) in
    (t.0, then_on _ read (ap (λ k. Ok (arrival.CheckCommit c, k)) end))

failure_back : (n : ℕ) (bs : List ℕ) → Bytes bs → (f : Failure) → Stands bs 0 (mark_bytes mark.Failure) → failure_in bs ≡ Ok f → Got bs 0 arrival_bytes (RightArrival n) (arrival.Failure f, 15)
unfolding arrival_bytes body_bytes check_commit_body failure_body
failure_back n bs all f t e =
    then_by (number_at 1 bs 2) _ e (λ sender read-sender e₁.
    then_by (view_at 0 999999 bs 3) _ e₁ (λ view read_view e₂.
    then_by (number_at 8 bs 7) _ e₂ (λ seal read-seal e₃.
    let a = number_back 1 bs 2 sender all read-sender in
    let b = view_back 0 999999 bs 3 view all read_view in
    let c = number_back 8 bs 7 seal all read-seal in
    let l : length (head_bytes mark.Failure sender ++ put 4 view) ≡ 7 = simp (length-append, head_length, put_length) in
    let z = sealed_length (head_bytes mark.Failure sender ++ put 4 view) seal in
    subst (λ f. Got bs 0 arrival_bytes (RightArrival n) (arrival.Failure f, 15)) (ok_same e₃) (
      record { sender_fits = a.0; view_high = b.1; seal_fits = c.0 },
      stands_join (head_join mark.Failure sender t a.1 b.2) c.1 (omega arith),
      omega arith,
    ))))

failure_on : (n : ℕ) (bs : List ℕ) (f : Failure) → RightArrival n (arrival.Failure f) → Stands bs 0 (arrival_bytes (arrival.Failure f)) → Stands bs 0 (mark_bytes mark.Failure) × (arrival_behind n bs mark.Failure ≡ Ok (arrival.Failure f, length (arrival_bytes (arrival.Failure f))))
unfolding arrival_bytes body_bytes check_commit_body failure_body
failure_on n bs f h s =
    let l : length (head_bytes mark.Failure f.sender ++ put 4 f.view) ≡ 7 = simp (length-append, head_length, put_length) in
    let z = sealed_length (head_bytes mark.Failure f.sender ++ put 4 f.view) f.seal in
    let parts = stands_split (head_bytes mark.Failure f.sender ++ put 4 f.view) (put 8 f.seal) 7 (omega arith) s in
    let t = head_split mark.Failure f.sender (put 4 f.view) parts.0 in
    let end : 15 ≡ length ((head_bytes mark.Failure f.sender ++ put 4 f.view) ++ put 8 f.seal) = omega arith in
    let read : failure_in bs ≡ Ok f =
    then_on _ (number_on 1 bs 2 f.sender h.sender_fits t.1)
    (then_on _ (view_on 0 999999 bs 3 f.view (omega arith) h.view_high (omega arith) t.2)
    (then_on _ (number_on 8 bs 7 f.seal h.seal_fits parts.1) refl)) in
    (t.0, then_on _ read (ap (λ k. Ok (arrival.Failure f, k)) end))

-- a new view's body with its view states as a list
abbrev pub view_body : ℕ → ℕ → List ViewState → List ℕ
view_body sender view ss = head_bytes mark.NewView sender ++ (put 4 view ++ (put 1 (length ss) ++ flat_map state_bytes ss))

pub view_length : (sender view : ℕ) (ss : List ViewState) → length (view_body sender view ss) ≡ 8 + length (flat_map state_bytes ss)
view_length sender view ss = simp (length-append, head_length, put_length) (omega arith)

-- the view states of a new view, in range
abbrev RightMembers : ℕ → ℕ → Few ViewState 7 → Type 0
RightMembers n count states =
    Packed blank_state 7 states × (length (listed states) ≡ count) × AllByRecursion (RightState n) (listed states)

members_back : (n : ℕ) → n ≤ 10 → (bs : List ℕ) → Bytes bs → (at count : ℕ) (states : Few ViewState 7) (end : ℕ) → at ≤ length bs → members_at n bs at count ≡ Ok (states, end) → Got bs at (λ states. flat_map state_bytes (listed states)) (RightMembers n count) (states, end)
members_back n ten bs all at count states end room e =
    then_by (several (member_at n bs) at count) _ e (λ ss read e₁.
    let r = several_back bs (member_at n bs) state_bytes (λ i. RightState n) (member_back n ten bs all) count at ss.0 ss.1 room read in
    let row = r.0 in
    let same = listed_filled blank_state 7 ss.0 in
    subst (Got bs at (λ states. flat_map state_bytes (listed states)) (RightMembers n count)) (ok_same e₁) (
      (
        ap (filled blank_state 7) (sym same),
        ap length same ∙ row.many,
        subst (AllByRecursion (RightState n)) (sym same) (row_all (RightState n) count ss.0 row),
      ),
      stands_same (ap (flat_map state_bytes) (sym same)) r.1,
      r.2 ∙ ap (λ l. at + length (flat_map state_bytes l)) (sym same),
    ))

new_view_back : (n : ℕ) → n ≤ 10 → (bs : List ℕ) → Bytes bs → (v : NewView) (end : ℕ) → Stands bs 0 (mark_bytes mark.NewView) → new_view_in n bs ≡ Ok (v, end) → Got bs 0 arrival_bytes (RightArrival n) (arrival.NewView v, end)
unfolding arrival_bytes body_bytes new_view_body check_commit_body failure_body states_bytes
new_view_back n ten bs all v end t e =
    then_by (number_at 1 bs 2) _ e (λ sender read-sender e₁.
    then_by (view_at 1 last_view bs 3) _ e₁ (λ view read_view e₂.
    then_by (number_at 1 bs 7) _ e₂ (λ count read_count e₃.
    check_by (eqb count (quorum_of n)) 7 _ e₃ (λ good e₄.
    then_by (members_at n bs 8 count) _ e₄ (λ states read-states e₅.
    then_by (number_at 8 bs states.1) _ e₅ (λ seal read-seal e₆.
    let a = number_back 1 bs 2 sender all read-sender in
    let b = view_back 1 last_view bs 3 view all read_view in
    let c = number_back 1 bs 7 count all read_count in
    let f = number_back 8 bs states.1 seal all read-seal in
    let there = c.1 in
    let l₁ = put_length 1 count in
    let r = members_back n ten bs all 8 count states.0 states.1 (omega (arith, there.inside)) read-states in
    subst (λ got. Got bs 0 arrival_bytes (RightArrival n) (arrival.NewView got.0, got.1)) (ok_same e₆)
    (made sender view count states.0 seal states.1 a b (eqb-true count (quorum_of n) good) there r f)))))))
  where
    made : (sender view count : ℕ) (states : Few ViewState 7) (seal far : ℕ) → Fits 1 sender × Stands bs 2 (put 1 sender) → (1 ≤ view) × (view ≤ last_view) × Stands bs 3 (put 4 view) → count ≡ quorum_of n → Stands bs 7 (put 1 count) → Got bs 8 (λ states. flat_map state_bytes (listed states)) (RightMembers n count) (states, far) → Fits 8 seal × Stands bs far (put 8 seal) → Got bs 0 arrival_bytes (RightArrival n) (arrival.NewView (record { sender = sender; view = view; states = states; seal = seal }), far + 8)
    made sender view count states seal far a b q c r f =
        let many : length (listed states) ≡ count = r.0.1 in
        let front = stands_same (ap (put 1) (sym many)) c in
        let body : Stands bs 0 (view_body sender view (listed states)) =
        head_join mark.NewView sender t a.1 (put_join 4 view b.2 (put_join 1 (length (listed states)) front r.1 refl) refl) in
        let l = view_length sender view (listed states) in
        let z = sealed_length (view_body sender view (listed states)) seal in
        let far-is = r.2 in (
          record {
            sender_fits = a.0;
            view_low = b.0;
            view_high = b.1;
            states_packed = r.0.0;
            states_many = many ∙ q;
            states_right = r.0.2;
            seal_fits = f.0;
          },
          stands_join body f.1 (omega arith),
          omega arith,
        )

new_view_on : (n : ℕ) → n ≤ 10 → (bs : List ℕ) (v : NewView) → RightArrival n (arrival.NewView v) → Stands bs 0 (arrival_bytes (arrival.NewView v)) → Stands bs 0 (mark_bytes mark.NewView) × (arrival_behind n bs mark.NewView ≡ Ok (arrival.NewView v, length (arrival_bytes (arrival.NewView v))))
unfolding arrival_bytes body_bytes new_view_body check_commit_body failure_body states_bytes
new_view_on n ten bs v h s = go (listed v.states) h.states_packed h.states_many h.states_right s
  where
    go : (ss : List ViewState) → v.states ≡ filled blank_state 7 ss → length ss ≡ quorum_of n → AllByRecursion (RightState n) ss → Stands bs 0 (view_body v.sender v.view ss ++ put 8 v.seal) → Stands bs 0 (mark_bytes mark.NewView) × (arrival_behind n bs mark.NewView ≡ Ok (arrival.NewView v, length (view_body v.sender v.view ss ++ put 8 v.seal)))
    go ss packed many right s =
        let l = view_length v.sender v.view ss in
        let z = sealed_length (view_body v.sender v.view ss) v.seal in
        let far : ℕ = 8 + length (flat_map state_bytes ss) in
        let end : far + 8 ≡ length (view_body v.sender v.view ss ++ put 8 v.seal) = omega arith in
        let rest : List ℕ = put 1 (length ss) ++ flat_map state_bytes ss in
        let parts = stands_split (view_body v.sender v.view ss) (put 8 v.seal) far (omega arith) s in
        let t = head_split mark.NewView v.sender (put 4 v.view ++ rest) parts.0 in
        let view = put_split 4 v.view rest 7 refl t.2 in
        let states = put_split 1 (length ss) (flat_map state_bytes ss) 8 refl view.1 in
        let row = all_row (RightState n) (length ss) ss refl right in
        let few : length ss < 256 = omega arith in
        let members : members_at n bs 8 (length ss) ≡ Ok (v.states, far) =
        then_on _ (several_on bs (member_at n bs) state_bytes (λ i. RightState n) (member_on n ten bs) (length ss) 8 ss row states.1) (ap (λ l. Ok (l, far)) (sym packed)) in
        let read : new_view_in n bs ≡ Ok (v, far + 8) =
        then_on _ (number_on 1 bs 2 v.sender h.sender_fits t.1)
        (then_on _ (view_on 1 last_view bs 3 v.view h.view_low h.view_high (omega arith) view.0)
        (then_on _ (number_on 1 bs 7 (length ss) few states.0)
        (check_on 7 (eq-eqb (length ss) (quorum_of n) many)
        (then_on _ members
        (then_on _ (number_on 8 bs far v.seal h.seal_fits parts.1) refl))))) in
        (t.0, then_on _ read (ap (λ k. Ok (arrival.NewView v, k)) end))

-- what stations send each other
pub arrival_behind_back : (n : ℕ) → n ≤ 10 → (bs : List ℕ) → Bytes bs → (m : Mark) (a : Arrival) (end : ℕ) → Stands bs 0 (mark_bytes m) → arrival_behind n bs m ≡ Ok (a, end) → Got bs 0 arrival_bytes (RightArrival n) (a, end)
unfolding arrival_bytes body_bytes state_bytes check_commit_body failure_body
arrival_behind_back n ten bs all mark.Request a end t e = absurd (grind arith)
arrival_behind_back n ten bs all mark.Propose a end t e =
    then_by (claim_in bs) _ e (λ p read e₁.
    subst (Got bs 0 arrival_bytes (RightArrival n)) (ok_same e₁) (claim_back bs all mark.Propose p t read))
arrival_behind_back n ten bs all mark.Prepare a end t e =
    then_by (claim_in bs) _ e (λ p read e₁.
    subst (Got bs 0 arrival_bytes (RightArrival n)) (ok_same e₁) (claim_back bs all mark.Prepare p t read))
arrival_behind_back n ten bs all mark.CheckCommit a end t e =
    then_by (check_commit_in n bs) _ e (λ c read e₁.
    subst (Got bs 0 arrival_bytes (RightArrival n)) (ok_same e₁) (check_commit_back n ten bs all c t read))
arrival_behind_back n ten bs all mark.Inform a end t e = absurd (grind arith)
arrival_behind_back n ten bs all mark.Failure a end t e =
    then_by (failure_in bs) _ e (λ f read e₁.
    subst (Got bs 0 arrival_bytes (RightArrival n)) (ok_same e₁) (failure_back n bs all f t read))
arrival_behind_back n ten bs all mark.ViewState a end t e =
    then_by (state_at n bs 0) _ e (λ s read e₁.
    let g = state_back n ten bs all 0 s.0 s.1 read in
    subst (Got bs 0 arrival_bytes (RightArrival n)) (ok_same e₁) g)
arrival_behind_back n ten bs all mark.NewView a end t e =
    then_by (new_view_in n bs) _ e (λ v read e₁.
    subst (Got bs 0 arrival_bytes (RightArrival n)) (ok_same e₁) (new_view_back n ten bs all v.0 v.1 t read))

pub arrival_behind_on : (n : ℕ) → n ≤ 10 → (bs : List ℕ) (a : Arrival) → RightArrival n a → Stands bs 0 (arrival_bytes a) → Stands bs 0 (mark_bytes (kind a)) × (arrival_behind n bs (kind a) ≡ Ok (a, length (arrival_bytes a)))
unfolding arrival_bytes body_bytes claim_bytes state_bytes state_body check_commit_body failure_body
arrival_behind_on n ten bs (arrival.Propose p) h s =
    let c = claim_on bs mark.Propose p h s in (c.0, then_on _ c.1 (ap (λ k. Ok (arrival.Propose p, k)) c.2))
arrival_behind_on n ten bs (arrival.Prepare p) h s =
    let c = claim_on bs mark.Prepare p h s in (c.0, then_on _ c.1 (ap (λ k. Ok (arrival.Prepare p, k)) c.2))
arrival_behind_on n ten bs (arrival.CheckCommit c) h s = check_commit_on n ten bs c h s
arrival_behind_on n ten bs (arrival.Failure f) h s = failure_on n bs f h s
arrival_behind_on n ten bs (arrival.ViewState v) h s =
    let body = stands_left (state_body v) (put 8 v.seal) s in
    let t = head_split mark.ViewState v.sender _ body in
    (t.0, then_on _ (state_on n ten bs 0 v h s) (ap (λ k. Ok (arrival.ViewState v, k)) (zero-add (length (state_bytes v)))))
arrival_behind_on n ten bs (arrival.NewView v) h s = new_view_on n ten bs v h s

-- a request
abbrev pub asking_bytes : Request → List ℕ
asking_bytes r = record_bytes (rec.Request r)

pub request_behind_back : (bs : List ℕ) → Bytes bs → (m : Mark) (r : Request) (end : ℕ) → Stands bs 0 (mark_bytes m) → request_behind bs m ≡ Ok (r, end) → Got bs 0 asking_bytes RightRequest (r, end)
unfolding record_bytes
request_behind_back bs all mark.Request r end t e =
    then_by (request_at bs 2) _ e (λ q read e₁.
    let b = requests.request_back bs 2 q all read in
    let l₂ = mark_length mark.Request in
    let l₃₀ = request_length q b.0 in
    let l = length-append (mark_bytes mark.Request) (request_bytes q) in
    subst (Got bs 0 asking_bytes RightRequest) (ok_same e₁) (b.0, stands_join t b.1 (omega arith), omega arith))
request_behind_back bs all mark.Propose r end t e = absurd (grind arith)
request_behind_back bs all mark.Prepare r end t e = absurd (grind arith)
request_behind_back bs all mark.CheckCommit r end t e = absurd (grind arith)
request_behind_back bs all mark.Inform r end t e = absurd (grind arith)
request_behind_back bs all mark.Failure r end t e = absurd (grind arith)
request_behind_back bs all mark.ViewState r end t e = absurd (grind arith)
request_behind_back bs all mark.NewView r end t e = absurd (grind arith)

pub request_behind_on : (bs : List ℕ) (r : Request) → RightRequest r → Stands bs 0 (asking_bytes r) → Stands bs 0 (mark_bytes mark.Request) × (request_behind bs mark.Request ≡ Ok (r, length (asking_bytes r)))
unfolding record_bytes
request_behind_on bs r h s =
    let l₂ = mark_length mark.Request in
    let l₃₀ = request_length r h in
    let l = length-append (mark_bytes mark.Request) (request_bytes r) in
    let end : 32 ≡ length (mark_bytes mark.Request ++ request_bytes r) = omega arith in
    let t = stands_split (mark_bytes mark.Request) (request_bytes r) 2 (omega arith) s in
    (t.0, then_on _ (requests.request_on bs 2 r h t.1) (ap (λ k. Ok (r, k)) end))

-- an inform
abbrev pub telling_bytes : Inform → List ℕ
telling_bytes i = record_bytes (rec.Inform i)

pub inform_behind_back : (bs : List ℕ) → Bytes bs → (m : Mark) (i : Inform) (end : ℕ) → Stands bs 0 (mark_bytes m) → inform_behind bs m ≡ Ok (i, end) → Got bs 0 telling_bytes RightInform (i, end)
unfolding record_bytes inform_body claim_bytes
inform_behind_back bs all mark.Inform i end t e =
    then_by (inform_in bs) _ e (λ j read e₀.
    then_by (number_at 1 bs 2) _ read (λ sender read-sender e₁.
    then_by (proposal_at bs 3) _ e₁ (λ p read-p e₂.
    then_by (number_at 8 bs 41) _ e₂ (λ result read_result e₃.
    then_by (number_at 8 bs 49) _ e₃ (λ seal read-seal e₄.
    let a = number_back 1 bs 2 sender all read-sender in
    let b = proposal_back bs 3 p all read-p in
    let c = number_back 8 bs 41 result all read_result in
    let d = number_back 8 bs 49 seal all read-seal in
    let l : length (head_bytes mark.Inform sender ++ proposal_bytes p) ≡ 41 = claim_length mark.Inform sender p b.0 in
    let y = sealed_length (head_bytes mark.Inform sender ++ proposal_bytes p) result in
    let z = sealed_length ((head_bytes mark.Inform sender ++ proposal_bytes p) ++ put 8 result) seal in
    subst (Got bs 0 telling_bytes RightInform) (ap (λ j. (j, 57)) (ok_same e₄) ∙ ok_same e₀) (
      record { claim_right = record { sender_fits = a.0; proposal_right = b.0; seal_fits = d.0 }; result_fits = c.0 },
      stands_join (stands_join (head_join mark.Inform sender t a.1 b.1) c.1 (omega arith)) d.1 (omega arith),
      omega arith,
    ))))))
inform_behind_back bs all mark.Request i end t e = absurd (grind arith)
inform_behind_back bs all mark.Propose i end t e = absurd (grind arith)
inform_behind_back bs all mark.Prepare i end t e = absurd (grind arith)
inform_behind_back bs all mark.CheckCommit i end t e = absurd (grind arith)
inform_behind_back bs all mark.Failure i end t e = absurd (grind arith)
inform_behind_back bs all mark.ViewState i end t e = absurd (grind arith)
inform_behind_back bs all mark.NewView i end t e = absurd (grind arith)

pub inform_behind_on : (bs : List ℕ) (i : Inform) → RightInform i → Stands bs 0 (telling_bytes i) → Stands bs 0 (mark_bytes mark.Inform) × (inform_behind bs mark.Inform ≡ Ok (i, length (telling_bytes i)))
unfolding record_bytes inform_body claim_bytes
inform_behind_on bs i h s =
    let c = h.claim_right in
    let head : List ℕ = head_bytes mark.Inform i.sender in
    let p : List ℕ = proposal_bytes i.proposal in
    let l : length (head ++ p) ≡ 41 = claim_length mark.Inform i.sender i.proposal c.proposal_right in
    let y : length ((head ++ p) ++ put 8 i.result) ≡ length (head ++ p) + 8 = sealed_length (head ++ p) i.result in
    let z : length (((head ++ p) ++ put 8 i.result) ++ put 8 i.seal) ≡ length ((head ++ p) ++ put 8 i.result) + 8 =
    sealed_length ((head ++ p) ++ put 8 i.result) i.seal in
    let end : 57 ≡ length (((head ++ p) ++ put 8 i.result) ++ put 8 i.seal) = omega arith in
    let parts = stands_split ((head ++ p) ++ put 8 i.result) (put 8 i.seal) 49 (omega arith) s in
    let body = stands_split (head ++ p) (put 8 i.result) 41 (omega arith) parts.0 in
    let t = head_split mark.Inform i.sender p body.0 in
    let read : inform_in bs ≡ Ok i =
    then_on _ (number_on 1 bs 2 i.sender c.sender_fits t.1)
    (then_on _ (proposal_on bs 3 i.proposal c.proposal_right t.2)
    (then_on _ (number_on 8 bs 41 i.result h.result_fits body.1)
    (then_on _ (number_on 8 bs 49 i.seal c.seal_fits parts.1) refl))) in
    (t.0, then_on _ read (ap (λ k. Ok (i, k)) end))
