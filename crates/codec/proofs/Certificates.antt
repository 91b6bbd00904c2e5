-- Certificates: a proposal, the mask of its seals, and the seals by rising station. Assumes nothing.
use Rattle.std.proofs.Common.{◌≡◌, ℕ, ◌+◌, ◌*◌, ◌/◌, ◌^◌, ◌<◌, ◌≤◌, Bool, true, false, cond, eqb, List, [], ◌∷◌, ◌++◌, length, get_or, is_some, Some, None, Ok, Option, Result, sym, refl, ap, ◌∙◌, subst, add-zero, arith, length-append}
use Rattle.std.specs.Prelude.{count_ones}
use Rattle.std.specs.List.{flat_map, AllByRecursion}
use Rattle.std.proofs.lemmas.Bool.{eqb-true, eq-eqb, and_parts, and_from}
use Rattle.std.proofs.ByRecursion.{All-get_or, All-from_get_or}
use Rattle.std.proofs.lemmas.List.{get_or_default}
use Rattle.quorum.specs.declared.refusal.Fault.{Fault}
use Rattle.quorum.specs.Figures.{quorum_of}
use Rattle.records.specs.Numbers.{put, shows, mask_of}
use Rattle.records.specs.Range.{Bytes, Fits, RightSeal, RightCertificate, seals_there}
use Rattle.records.specs.Reading.{◌then◌, number_at, proposal_at, several, slot_at, seals_at, quorate, certificate_at, certificate_size, listed_at}
use Rattle.records.specs.Writing.{proposal_bytes, seal_bytes, seals_bytes, certificate_bytes}
use Rattle.records.specs.declared.certificate.Certificate.{Certificate}
use Rattle.codec.specs.Standing.{Stands}
use Rattle.codec.proofs.Numbers.{put_length}
use Rattle.codec.proofs.Masks.{shows_mask, ones_mask, mask_below, none_above, none_from, mask_is}
use Rattle.codec.proofs.Standing.{stands_join, stands_split, put_join, put_split, stands_none, stands_same}
use Rattle.codec.proofs.Steps.{ok_same, then_ok, then_by, then_on, check_by, check_on, number_back, number_on}
use Rattle.codec.proofs.Requests.{proposal_length, proposal_back, proposal_on}
use Rattle.codec.proofs.Rows.{Got, Row, Back, On, several_back, several_on}

-- the seal of station i, where the mask shows it
abbrev pub RightSlot : ℕ → ℕ → Option ℕ → Type 0
RightSlot mask i s = (is_some s ≡ shows mask i) × RightSeal s

pub seal_length : (s : Option ℕ) → length (seal_bytes s) ≡ 8 * cond (is_some s) 1 0
unfolding seal_bytes
seal_length None = refl
seal_length (Some s) = put_length 8 s

pub seals_length : (seals : List (Option ℕ)) → length (flat_map seal_bytes seals) ≡ 8 * seals_there seals
seals_length [] = refl
seals_length (s ∷ ss) =
    let ih = seals_length ss in
    let h = seal_length s in
    let l = length-append (seal_bytes s) (flat_map seal_bytes ss) in
    omega arith

-- a slot once its bit is known
abbrev slot : List ℕ → ℕ → Bool → Result (Option ℕ × ℕ) Fault
slot bs at b = cond b (number_at 8 bs at then (λ seal. Ok (Some seal, at + 8))) (Ok (None, at))

slot_back : (bs : List ℕ) (mask : ℕ) → Bytes bs → Back bs (slot_at bs mask) seal_bytes (RightSlot mask)
unfolding seal_bytes
slot_back bs mask all i at x end room e = go (shows mask i) refl e
  where
    go : (b : Bool) → shows mask i ≡ b → slot bs at b ≡ Ok (x, end) → Got bs at seal_bytes (RightSlot mask i) (x, end)
    go true t h =
        let a = then_ok (number_at 8 bs at) _ h in
        let n = number_back 8 bs at a.0 all a.1 in
        subst (Got bs at seal_bytes (RightSlot mask i)) (ok_same a.2)
        ((sym t, n.0), n.1, ap (λ m. at + m) (sym (put_length 8 a.0)))
    go false t h =
        subst (Got bs at seal_bytes (RightSlot mask i)) (ok_same h)
        ((sym t, tt), stands_none bs at room, sym (add-zero at))

slot_on : (bs : List ℕ) (mask : ℕ) → On bs (slot_at bs mask) seal_bytes (RightSlot mask)
unfolding seal_bytes
slot_on bs mask i at None h s =
    let e : slot bs at (shows mask i) ≡ Ok (None, at) = ap (slot bs at) (sym h.0) in
    e ∙ ap (λ m. Ok (None, m)) (sym (add-zero at))
slot_on bs mask i at (Some x) h s =
    let e : slot bs at (shows mask i) ≡ slot bs at true = ap (slot bs at) (sym h.0) in
    e ∙ then_on _ (number_on 8 bs at x h.1 s) (ap (λ m. Ok (Some x, at + m)) (sym (put_length 8 x)))

-- the seals that a mask shows at k stations
seals_back : (bs : List ℕ) (mask k at : ℕ) (seals : List (Option ℕ)) → Bytes bs → at ≤ length bs → (several (slot_at bs mask) at k then (λ got. Ok got.0)) ≡ Ok seals → Row (RightSlot mask) k seals × Stands bs at (flat_map seal_bytes seals)
seals_back bs mask k at seals all room e =
    let a = then_ok (several (slot_at bs mask) at k) (λ got. Ok got.0) e in
    let r = several_back bs (slot_at bs mask) seal_bytes (RightSlot mask) (slot_back bs mask all) k at a.0.0 a.0.1 room a.1 in
    subst (λ l. Row (RightSlot mask) k l × Stands bs at (flat_map seal_bytes l)) (ok_same a.2) (r.0, r.1)

seals_on : (bs : List ℕ) (mask k at : ℕ) (seals : List (Option ℕ)) → Row (RightSlot mask) k seals → Stands bs at (flat_map seal_bytes seals) → (several (slot_at bs mask) at k then (λ got. Ok got.0)) ≡ Ok seals
seals_on bs mask k at seals r s =
    then_on (λ got. Ok got.0) (several_on bs (slot_at bs mask) seal_bytes (RightSlot mask) (slot_on bs mask) k at seals r s) refl

pub certificate_length : (n : ℕ) (c : Certificate) → RightCertificate n c → length (certificate_bytes c) ≡ certificate_size n
unfolding certificate_bytes seals_bytes
certificate_length n c h =
    simp (length-append, put_length, seals_length) (omega (arith, proposal_length c.proposal h.proposal_right, h.quorate))

-- a quorum of seals below n, as the mask has it
seals_right : (n mask : ℕ) (seals : List (Option ℕ)) → n ≤ 10 → quorate n mask ≡ true → Row (RightSlot mask) 10 seals → (mask_of seals ≡ mask) × AllByRecursion RightSeal seals × (seals_there seals ≡ quorum_of n) × ((i : ℕ) → n ≤ i → get_or seals i None ≡ None)
seals_right n mask seals ten q r =
    let t = and_parts (eqb (mask / 2 ^ n) 0) (eqb (count_ones mask) (quorum_of n)) q in
    let high : mask / 2 ^ n ≡ 0 = eqb-true (mask / 2 ^ n) 0 t.0 in
    let count : count_ones mask ≡ quorum_of n = eqb-true (count_ones mask) (quorum_of n) t.1 in
    let all-high : mask / 2 ^ length seals ≡ 0 = ap (λ k. mask / 2 ^ k) r.many ∙ none_above mask n 10 ten high in
    let same = mask_is seals mask all-high (λ i l. (r.each i None (subst (λ k. i < k) r.many l)).0) in (
      same,
      All-from_get_or RightSeal seals None (λ i l. (r.each i None (subst (λ k. i < k) r.many l)).1),
      sym (ones_mask seals) ∙ ap count_ones same ∙ count,
      none_from seals n (ap (λ m. m / 2 ^ n) same ∙ high),
    )

seals_row : (n : ℕ) (c : Certificate) → RightCertificate n c → Row (RightSlot (mask_of c.seals)) 10 c.seals
seals_row n c h = record {
  many = h.ten;
  each = λ i d l.
      let m : i < length c.seals = subst (λ k. i < k) (sym h.ten) l in (
        ap is_some (get_or_default c.seals i d None m) ∙ sym (shows_mask c.seals i),
        All-get_or RightSeal c.seals i d m h.seals_right,
      );
}

seals_quorate : (n : ℕ) (c : Certificate) → RightCertificate n c → quorate n (mask_of c.seals) ≡ true
seals_quorate n c h =
    and_from (eqb (mask_of c.seals / 2 ^ n) 0) (eqb (count_ones (mask_of c.seals)) (quorum_of n))
    (eq-eqb (mask_of c.seals / 2 ^ n) 0 (mask_below c.seals n h.inside))
    (eq-eqb (count_ones (mask_of c.seals)) (quorum_of n) (ones_mask c.seals ∙ h.quorate))

mask_fits : (n : ℕ) (c : Certificate) → n ≤ 10 → RightCertificate n c → Fits 2 (mask_of c.seals)
mask_fits n c ten h =
    let high = none_above (mask_of c.seals) n 10 ten (mask_below c.seals n h.inside) in
    omega arith

pub certificate_back : (n : ℕ) → n ≤ 10 → (bs : List ℕ) (at : ℕ) (c : Certificate) → Bytes bs → certificate_at n bs at ≡ Ok c → RightCertificate n c × Stands bs at (certificate_bytes c)
unfolding certificate_bytes seals_bytes
certificate_back n ten bs at c all e =
    then_by (proposal_at bs at) _ e (λ proposal read-proposal e₁.
    then_by (number_at 2 bs (at + 38)) _ e₁ (λ mask read-mask e₂.
    check_by (quorate n mask) (at + 38) _ e₂ (λ good e₃.
    then_by (seals_at bs mask (at + 40)) _ e₃ (λ seals read-seals e₄.
    let p = proposal_back bs at proposal all read-proposal in
    let m = number_back 2 bs (at + 38) mask all read-mask in
    let mask-there = m.1 in
    let l₃₈ = proposal_length proposal p.0 in
    let l₂ = put_length 2 mask in
    let s = seals_back bs mask 10 (at + 40) seals all (omega arith) read-seals in
    let r = seals_right n mask seals ten good s.0 in
    let row = s.0 in
    subst (λ c. RightCertificate n c × Stands bs at (certificate_bytes c)) (ok_same e₄) (
      record { proposal_right = p.0; ten = row.many; seals_right = r.1; quorate = r.2; inside = r.3 },
      stands_same (ap (λ k. proposal_bytes proposal ++ (put 2 k ++ flat_map seal_bytes seals)) (sym r.0))
          (stands_join p.1 (put_join 2 mask m.1 s.1 (omega arith)) (omega arith)),
    )))))

pub certificate_on : (n : ℕ) → n ≤ 10 → (bs : List ℕ) (at : ℕ) (c : Certificate) → RightCertificate n c → Stands bs at (certificate_bytes c) → certificate_at n bs at ≡ Ok c
unfolding certificate_bytes seals_bytes
certificate_on n ten bs at c h s =
    let l₃₈ = proposal_length c.proposal h.proposal_right in
    let seals : List ℕ = flat_map seal_bytes c.seals in
    let a = stands_split (proposal_bytes c.proposal) (put 2 (mask_of c.seals) ++ seals) (at + 38) (omega arith) s in
    let b = put_split 2 (mask_of c.seals) seals (at + 40) (omega arith) a.1 in
    then_on _ (proposal_on bs at c.proposal h.proposal_right a.0)
    (then_on _ (number_on 2 bs (at + 38) (mask_of c.seals) (mask_fits n c ten h) b.0)
    (check_on (at + 38) (seals_quorate n c h)
    (then_on _ (seals_on bs (mask_of c.seals) 10 (at + 40) c.seals (seals_row n c h) b.1)
    refl)))

-- one of several certificates
pub listed_back : (n : ℕ) → n ≤ 10 → (bs : List ℕ) → Bytes bs → Back bs (listed_at n bs) certificate_bytes (λ i. RightCertificate n)
listed_back n ten bs all i at c end room e =
    then_by (certificate_at n bs at) _ e (λ d read e₁.
    let r = certificate_back n ten bs at d all read in
    subst (Got bs at certificate_bytes (RightCertificate n)) (ok_same e₁)
    (r.0, r.1, ap (λ m. at + m) (sym (certificate_length n d r.0))))

pub listed_on : (n : ℕ) → n ≤ 10 → (bs : List ℕ) → On bs (listed_at n bs) certificate_bytes (λ i. RightCertificate n)
listed_on n ten bs i at c h s =
    then_on _ (certificate_on n ten bs at c h s) (ap (λ m. Ok (c, at + m)) (sym (certificate_length n c h)))
