-- View states: a commit certificate or none, and the prepared ones above it. Assumes nothing.
use Rattle.std.proofs.Common.{◌≡◌, ℕ, zero, suc, ◌+◌, ◌-◌, ◌≤◌, cond, eqb, leb, List, ◌++◌, length, replicate, Some, None, Ok, Option, Result, sym, refl, ap, subst, arith, length-append}
use Rattle.std.specs.List.{flat_map, AllByRecursion}
use Rattle.std.proofs.lemmas.List.{take_at}
use Rattle.std.proofs.lemmas.Bool.{eqb-true, leb-true, le-leb}
use Rattle.quorum.specs.declared.refusal.Fault.{Fault}
use Rattle.records.specs.Numbers.{put}
use Rattle.records.specs.Lists.{listed, filled}
use Rattle.records.specs.Blanks.{blank_certificate}
use Rattle.records.specs.Marks.{letters}
use Rattle.records.specs.Range.{Bytes, Fits, Packed, RightCertificate, RightCommit, RightState}
use Rattle.records.specs.Reading.{◌then◌, number_at, view_at, several, certificate_at, certificate_size, listed_at, commit_at, prepared_at, state_at, member_at}
use Rattle.records.specs.Writing.{mark_bytes, certificate_bytes, commit_bytes, prepared_bytes, state_body, state_bytes}
use Rattle.records.specs.declared.few.Few.{Few}
use Rattle.records.specs.declared.marks.Mark.TheVariants as mark
use Rattle.records.specs.declared.certificate.Certificate.{Certificate}
use Rattle.records.specs.declared.arrivals.ViewState.{ViewState}
use Rattle.codec.specs.Standing.{Stands}
pub use Rattle.codec.proofs.Marks.{head_length}
use Rattle.codec.proofs.Marks.{head_join, head_split}
use Rattle.codec.proofs.Numbers.{put_length, sealed_length}
use Rattle.codec.proofs.Standing.{stands_join, stands_split, put_join, put_split, stands_same}
use Rattle.codec.proofs.Steps.{ok_same, then_by, then_on, check_by, check_on, number_back, number_on, view_back, view_on}
use Rattle.codec.proofs.Certificates.{certificate_length, certificate_back, certificate_on, listed_back, listed_on}
use Rattle.codec.proofs.Rows.{Got, Back, On, several_back, several_on, row_all, all_row}

-- the values of a list that was filled up are those that filled it
pub listed_filled : {A : Type 0} (blank : A) (n : ℕ) (xs : List A) → listed (filled blank n xs) ≡ xs
listed_filled blank n xs = take_at xs (replicate (n - length xs) blank) (length xs) refl

pub commit_back : (n : ℕ) → n ≤ 10 → (bs : List ℕ) → Bytes bs → (at : ℕ) (o : Option Certificate) (end : ℕ) → commit_at n bs at ≡ Ok (o, end) → Got bs at commit_bytes (RightCommit n) (o, end)
unfolding commit_bytes
commit_back n ten bs all at o end e =
    then_by (number_at 1 bs at) _ e (λ count read e₁.
    check_by (leb count 1) at _ e₁ (λ low e₂. go count (leb-true count 1 low) (number_back 1 bs at count all read).1 e₂))
  where
    go : (count : ℕ) → count ≤ 1 → Stands bs at (put 1 count) → cond {A = Result (Option Certificate × ℕ) Fault} (eqb count 0) (Ok (None, at + 1)) (certificate_at n bs (at + 1) then (λ c. Ok (Some c, at + 1 + certificate_size n))) ≡ Ok (o, end) → Got bs at commit_bytes (RightCommit n) (o, end)
    go zero l s h = subst (Got bs at commit_bytes (RightCommit n)) (ok_same h) (tt, s, ap (λ m. at + m) (sym (put_length 1 0)))
    go (suc zero) l s h =
        then_by (certificate_at n bs (at + 1)) _ h (λ c read h₁.
        let r = certificate_back n ten bs (at + 1) c all read in
        let l₁ = put_length 1 1 in
        let k = certificate_length n c r.0 in
        let m = length-append (put 1 1) (certificate_bytes c) in
        subst (Got bs at commit_bytes (RightCommit n)) (ok_same h₁)
        (r.0, stands_join s r.1 (omega arith), omega arith))
    go (suc (suc count)) l s h = absurd (omega arith)

pub commit_on : (n : ℕ) → n ≤ 10 → (bs : List ℕ) (at : ℕ) (o : Option Certificate) → RightCommit n o → Stands bs at (commit_bytes o) → commit_at n bs at ≡ Ok (o, at + length (commit_bytes o))
unfolding commit_bytes
commit_on n ten bs at None h s =
    then_on _ (number_on 1 bs at 0 (omega arith) s) (ap (λ m. Ok (None, at + m)) (sym (put_length 1 0)))
commit_on n ten bs at (Some c) h s =
    let l₁ = put_length 1 1 in
    let k = certificate_length n c h in
    let m = length-append (put 1 1) (certificate_bytes c) in
    let end : at + 1 + certificate_size n ≡ at + length (put 1 1 ++ certificate_bytes c) = omega arith in
    let t = put_split 1 1 (certificate_bytes c) (at + 1) refl s in
    then_on _ (number_on 1 bs at 1 (omega arith) t.0)
    (then_on _ (certificate_on n ten bs (at + 1) c h t.1) (ap (λ m. Ok (Some c, m)) end))

-- the prepared certificates of a view state, in range
abbrev pub RightPrepared : ℕ → Few Certificate 8 → Type 0
RightPrepared n few =
    Packed blank_certificate 8 few × (length (listed few) ≤ 8) × AllByRecursion (RightCertificate n) (listed few)

abbrev pub few_bytes : Few Certificate 8 → List ℕ
few_bytes few = prepared_bytes (listed few)

prepared_back : (n : ℕ) → n ≤ 10 → (bs : List ℕ) → Bytes bs → (at : ℕ) (few : Few Certificate 8) (end : ℕ) → prepared_at n bs at ≡ Ok (few, end) → Got bs at few_bytes (RightPrepared n) (few, end)
unfolding prepared_bytes
prepared_back n ten bs all at few end e =
    then_by (number_at 1 bs at) _ e (λ count read e₁.
    check_by (leb count 8) at _ e₁ (λ low e₂.
    then_by (several (listed_at n bs) (at + 1) count) _ e₂ (λ cs read_all e₃.
    let k = number_back 1 bs at count all read in
    let s = k.1 in
    let l₁ = put_length 1 count in
    let r = several_back bs (listed_at n bs) certificate_bytes (λ i. RightCertificate n) (listed_back n ten bs all) count (at + 1) cs.0 cs.1 (omega (arith, s.inside)) read_all in
    let row = r.0 in
    let many : length cs.0 ≡ count = row.many in
    let same = listed_filled blank_certificate 8 cs.0 in
    let l₁' = put_length 1 (length cs.0) in
    let m = length-append (put 1 (length cs.0)) (flat_map certificate_bytes cs.0) in
    let front = stands_same (ap (put 1) (sym many)) s in
    subst (Got bs at few_bytes (RightPrepared n)) (ok_same e₃) (
      (
        ap (filled blank_certificate 8) (sym same),
        subst (λ l. length l ≤ 8) (sym same) (omega (arith, leb-true count 8 low)),
        subst (AllByRecursion (RightCertificate n)) (sym same) (row_all (RightCertificate n) count cs.0 row),
      ),
      stands_same (ap prepared_bytes (sym same)) (stands_join front r.1 (omega arith)),
      subst (λ l. cs.1 ≡ at + length (prepared_bytes l)) (sym same) (omega (arith, r.2)),
    ))))

prepared_on : (n : ℕ) → n ≤ 10 → (bs : List ℕ) (at : ℕ) (few : Few Certificate 8) → RightPrepared n few → Stands bs at (few_bytes few) → prepared_at n bs at ≡ Ok (few, at + length (few_bytes few))
unfolding prepared_bytes
prepared_on n ten bs at few h s = go (listed few) h.0 h.1 h.2 s
  where
    go : (cs : List Certificate) → few ≡ filled blank_certificate 8 cs → length cs ≤ 8 → AllByRecursion (RightCertificate n) cs → Stands bs at (prepared_bytes cs) → prepared_at n bs at ≡ Ok (few, at + length (prepared_bytes cs))
    go cs packed low right s =
        let l₁ = put_length 1 (length cs) in
        let m = length-append (put 1 (length cs)) (flat_map certificate_bytes cs) in
        let t = put_split 1 (length cs) (flat_map certificate_bytes cs) (at + 1) refl s in
        let end : at + 1 + length (flat_map certificate_bytes cs) ≡ at + length (put 1 (length cs) ++ flat_map certificate_bytes cs) = omega arith in
        let row = all_row (RightCertificate n) (length cs) cs refl right in
        then_on _ (number_on 1 bs at (length cs) (omega arith) t.0)
        (check_on at (le-leb (length cs) 8 low)
        (then_on _ (several_on bs (listed_at n bs) certificate_bytes (λ i. RightCertificate n) (listed_on n ten bs) (length cs) (at + 1) cs row t.1)
        (cc)))

-- what a view state's seal covers, and the whole of it
body_length : (s : ViewState) → length (state_body s) ≡ 7 + length (commit_bytes s.commit) + length (few_bytes s.prepared)
unfolding state_body
body_length s = simp (length-append, head_length, put_length) (omega arith)

pub state_length : (s : ViewState) → length (state_bytes s) ≡ 15 + length (commit_bytes s.commit) + length (few_bytes s.prepared)
unfolding state_bytes
state_length s = omega (arith, body_length s, sealed_length (state_body s) s.seal)

pub state_back : (n : ℕ) → n ≤ 10 → (bs : List ℕ) → Bytes bs → (at : ℕ) (s : ViewState) (end : ℕ) → state_at n bs at ≡ Ok (s, end) → Got bs at state_bytes (RightState n) (s, end)
unfolding state_bytes state_body mark_bytes
state_back n ten bs all at s end e =
    then_by (number_at 2 bs at) _ e (λ letter read-letter e₁.
    check_by (eqb letter (letters mark.ViewState)) at _ e₁ (λ is e₂.
    then_by (number_at 1 bs (at + 2)) _ e₂ (λ sender read-sender e₃.
    then_by (view_at 0 999999 bs (at + 3)) _ e₃ (λ view read_view e₄.
    then_by (commit_at n bs (at + 7)) _ e₄ (λ commit read-commit e₅.
    then_by (prepared_at n bs commit.1) _ e₅ (λ prepared read-prepared e₆.
    then_by (number_at 8 bs prepared.1) _ e₆ (λ seal read-seal e₇.
    let letters-there = stands_same (ap (put 2) (eqb-true letter (letters mark.ViewState) is)) (number_back 2 bs at letter all read-letter).1 in
    let a = number_back 1 bs (at + 2) sender all read-sender in
    let b = view_back 0 999999 bs (at + 3) view all read_view in
    let c = commit_back n ten bs all (at + 7) commit.0 commit.1 read-commit in
    let d = prepared_back n ten bs all commit.1 prepared.0 prepared.1 read-prepared in
    let f = number_back 8 bs prepared.1 seal all read-seal in
    subst (Got bs at state_bytes (RightState n)) (ok_same e₇)
    (made (record { sender = sender; view = view; commit = commit.0; prepared = prepared.0; seal = seal }) commit.1 prepared.1 letters-there a b c d f))))))))
  where
    made : (s : ViewState) (mid far : ℕ) → Stands bs at (put 2 (letters mark.ViewState)) → Fits 1 s.sender × Stands bs (at + 2) (put 1 s.sender) → (0 ≤ s.view) × (s.view ≤ 999999) × Stands bs (at + 3) (put 4 s.view) → Got bs (at + 7) commit_bytes (RightCommit n) (s.commit, mid) → Got bs mid few_bytes (RightPrepared n) (s.prepared, far) → Fits 8 s.seal × Stands bs far (put 8 s.seal) → Got bs at state_bytes (RightState n) (s, far + 8)
    made s mid far t a b c d f =
        let rest = put_join 4 s.view b.2 (stands_join c.1 d.1 c.2) (omega arith) in (
          record {
            sender_fits = a.0;
            view_high = b.1;
            commit_right = c.0;
            prepared_packed = d.0.0;
            prepared_few = d.0.1;
            prepared_right = d.0.2;
            seal_fits = f.0;
          },
          stands_join (head_join mark.ViewState s.sender t a.1 rest) f.1 (omega (arith, body_length s, c.2, d.2)),
          omega (arith, state_length s, c.2, d.2),
        )

pub state_on : (n : ℕ) → n ≤ 10 → (bs : List ℕ) (at : ℕ) (s : ViewState) → RightState n s → Stands bs at (state_bytes s) → state_at n bs at ≡ Ok (s, at + length (state_bytes s))
unfolding state_bytes state_body mark_bytes
state_on n ten bs at s h st =
    let c : List ℕ = commit_bytes s.commit in
    let p : List ℕ = few_bytes s.prepared in
    let mid : ℕ = (at + 7) + length c in
    let far : ℕ = mid + length p in
    let whole = stands_split (state_body s) (put 8 s.seal) far (omega (arith, body_length s)) st in
    let t = head_split mark.ViewState s.sender (put 4 s.view ++ (c ++ p)) whole.0 in
    let view = put_split 4 s.view (c ++ p) (at + 7) (omega arith) t.2 in
    let rest = stands_split c p mid refl view.1 in
    let end : far + 8 ≡ at + length (state_bytes s) = omega (arith, state_length s) in
    then_on _ (number_on 2 bs at (letters mark.ViewState) (omega arith) t.0)
    (then_on _ (number_on 1 bs (at + 2) s.sender h.sender_fits t.1)
    (then_on _ (view_on 0 999999 bs (at + 3) s.view (omega arith) h.view_high (omega arith) view.0)
    (then_on _ (commit_on n ten bs (at + 7) s.commit h.commit_right rest.0)
    (then_on _ (prepared_on n ten bs mid s.prepared (h.prepared_packed, h.prepared_few, h.prepared_right) rest.1)
    (then_on _ (number_on 8 bs far s.seal h.seal_fits whole.1)
    (ap (λ k. Ok (s, k)) end))))))

-- one of several view states
pub member_back : (n : ℕ) → n ≤ 10 → (bs : List ℕ) → Bytes bs → Back bs (member_at n bs) state_bytes (λ i. RightState n)
member_back n ten bs all i at s end room e = state_back n ten bs all at s end e

pub member_on : (n : ℕ) → n ≤ 10 → (bs : List ℕ) → On bs (member_at n bs) state_bytes (λ i. RightState n)
member_on n ten bs i at s h st = state_on n ten bs at s h st
