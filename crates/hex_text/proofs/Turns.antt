-- One turn of each loop. Assumes nothing.
use Rattle.std.proofs.Common.{◌≡◌, ℕ, zero, suc, ◌+◌, ◌-◌, ◌*◌, ◌/◌, ◌%◌, ◌<◌, eqb, List, [], ◌∷◌, ◌++◌, length, get_or, drop, take, Bool, true, cond, ◌^◌, false, Some, None, Option, refl, sym, ap, ◌∙◌, subst, add-zero, add-suc, add-one, arith}
use Rattle.std.proofs.lemmas.Bool.{cond-true, cond-false, eq-eqb, ne_eqb}
use Rattle.std.proofs.lemmas.List.{length_push, get_or-take, get_or-drop, take_more, drop_more, flat_map_more}
use Rattle.std.proofs.lemmas.Fmt.{hex_byte}
use Rattle.std.specs.Fmt.{padded_integral, format_spec, digits}
use Rattle.std.specs.Simd.{first_chunks}
use Rattle.hex_text.specs.Digits.{◌and◌, byte_of, spelled, decoded, exactly, character, spelling}

pub spelled_more : (cs : List ℕ) (i : ℕ) (bs : List ℕ) (b : ℕ) → spelled cs i ≡ Some bs → byte_of (get_or cs (2 * i) 0) (get_or cs (2 * i + 1) 0) ≡ Some b → spelled cs (i + 1) ≡ Some (bs ++ (b ∷ []))
spelled_more cs i bs b e f = rw (add-one, e, f)

stays : (cs : List ℕ) (k j : ℕ) → spelled cs k ≡ None → spelled cs (k + j) ≡ None
stays cs k zero p = rw add-zero p
stays cs k (suc j) p = let q = stays cs k j p in rw (add-suc, q)

pub spelled_stop : (cs : List ℕ) (i : ℕ) (bs : List ℕ) → length cs % 2 ≡ 0 → i < length cs / 2 → spelled cs i ≡ Some bs → byte_of (get_or cs (2 * i) 0) (get_or cs (2 * i + 1) 0) ≡ None → decoded cs ≡ None
spelled_stop cs i bs even h e f =
    let here : spelled cs (suc i) ≡ None = rw (e, f) in
    let more : suc i + (length cs / 2 - suc i) ≡ length cs / 2 = omega arith in
    cond-true (eqb (length cs % 2) 0) (spelled cs (length cs / 2)) None (eq-eqb (length cs % 2) 0 even)
    ∙ subst (λ m. spelled cs m ≡ None) more (stays cs (suc i) (length cs / 2 - suc i) here)

-- the digits of a pair, by their places in the text
digit_in : (cs : List ℕ) (k i j n : ℕ) → i < k → j < 2 → 2 * i + j ≡ n → get_or (get_or (first_chunks 2 k cs) i []) j 0 ≡ get_or cs n 0
digit_in cs (suc k) zero j n h l e =
    let same : j ≡ n = omega arith in
    get_or-take 2 cs j 0 l ∙ ap (λ n. get_or cs n 0) same
digit_in cs (suc k) (suc i) j n h l e =
    let same : 2 + (2 * i + j) ≡ n = omega arith in
    digit_in (drop 2 cs) k i j (2 * i + j) (omega arith) l refl ∙ get_or-drop 2 cs (2 * i + j) 0 ∙ ap (λ n. get_or cs n 0) same
digit_in cs zero i j n h l e = absurd (omega arith)

-- what a pair spells
pub pair_spells : (cs : List ℕ) (pairs : List (List ℕ)) (i : ℕ) (o : Option ℕ) → pairs ≡ first_chunks 2 (length cs / 2) cs → i < length cs / 2 → o ≡ byte_of (get_or (get_or pairs i []) 0 0) (get_or (get_or pairs i []) 1 0) → byte_of (get_or cs (2 * i) 0) (get_or cs (2 * i + 1) 0) ≡ o
pair_spells cs pairs i o p l e =
    let high = ap (λ ps. get_or (get_or ps i []) 0 0) p ∙ digit_in cs (length cs / 2) i 0 (2 * i) l (omega arith) (omega arith) in
    let low = ap (λ ps. get_or (get_or ps i []) 1 0) p ∙ digit_in cs (length cs / 2) i 1 (2 * i + 1) l (omega arith) refl in
    sym (e ∙ ap (λ h. byte_of h (get_or (get_or pairs i []) 1 0)) high ∙ ap (λ l. byte_of (get_or cs (2 * i) 0) l) low)

-- the pair that comes next, and those that are left behind it
pub next_pair : (ps left after : List (List ℕ)) (i : ℕ) (p : List ℕ) → i < length ps → left ≡ drop i ps → left ≡ p ∷ after → (p ≡ get_or ps i []) × (after ≡ drop (i + 1) ps)
next_pair ps left after i p h l e =
    let m = drop_more ps i [] h in
    let s : p ∷ after ≡ get_or ps i [] ∷ drop (i + 1) ps = sym e ∙ l ∙ m in
    (grind arith, grind arith)

pub next_spells : (cs : List ℕ) (ps left : List (List ℕ)) (i : ℕ) (after : List (List ℕ)) (p : List ℕ) (o : Option ℕ) → ps ≡ first_chunks 2 (length cs / 2) cs → i < length ps → i < length cs / 2 → left ≡ drop i ps → left ≡ p ∷ after → o ≡ byte_of (get_or p 0 0) (get_or p 1 0) → byte_of (get_or cs (2 * i) 0) (get_or cs (2 * i + 1) 0) ≡ o
next_spells cs ps left i after p o c h k l e b =
    let n = next_pair ps left after i p h l e in
    pair_spells cs ps i o c k (subst (λ q. o ≡ byte_of (get_or q 0 0) (get_or q 1 0)) n.0 b)

-- k pairs spell k bytes
length-spelled : (cs : List ℕ) (k : ℕ) (bs : List ℕ) → spelled cs k ≡ Some bs → length bs ≡ k
length-spelled cs zero bs e = let n : bs ≡ [] = cc in rw n
length-spelled cs (suc k) bs e = go (spelled cs k) (byte_of (get_or cs (2 * k) 0) (get_or cs (2 * k + 1) 0)) (length-spelled cs k) e
  where
    go : (o : Option (List ℕ)) (b : Option ℕ) → ((xs : List ℕ) → o ≡ Some xs → length xs ≡ k) → (o and (λ xs. b and (λ b. Some (xs ++ (b ∷ []))))) ≡ Some bs → length bs ≡ suc k
    go None b ih e = absurd cc
    go (Some xs) None ih e = absurd cc
    go (Some xs) (Some b) ih e = let l = ih xs refl in let n : bs ≡ xs ++ (b ∷ []) = cc in rw (n, length_push) (omega arith)

pub exactly_none : (cs : List ℕ) (n : ℕ) → decoded cs ≡ None → None ≡ exactly n (decoded cs)
exactly_none cs n e = rw e

pub exactly_other : (cs : List ℕ) (n : ℕ) → (length cs / 2 ≡ n → ⊥) → None ≡ exactly n (decoded cs)
exactly_other cs n other = go (eqb (length cs % 2) 0) (spelled cs (length cs / 2)) (length-spelled cs (length cs / 2))
  where
    go : (b : Bool) (o : Option (List ℕ)) → ((bs : List ℕ) → o ≡ Some bs → length bs ≡ length cs / 2) → None ≡ exactly n (cond b o None)
    go false o l = refl
    go true None l = refl
    go true (Some bs) l = let e = l bs refl in sym (cond-false (eqb (length bs) n) (Some bs) None (ne_eqb (length bs) n (λ same. other (omega arith))))

-- what `{:02x}` writes of a byte
abbrev pub two_digits : ℕ → List ℕ
two_digits b = padded_integral (format_spec 32 0 4 2 (2 ^ 64 - 1)) false [] (digits 16 false b)

pub spelling_more : (bs : List ℕ) (i : ℕ) → i < length bs → get_or bs i 0 < 256 → spelling (take i bs) ++ two_digits (get_or bs i 0) ≡ spelling (take (i + 1) bs)
spelling_more bs i h l =
    let one = hex_byte false (get_or bs i 0) l in
    let more = take_more bs i 0 h in
    ap (λ ds. spelling (take i bs) ++ ds) one
    ∙ flat_map_more (λ b. character (b / 16) ∷ character (b % 16) ∷ []) [] (take i bs) (get_or bs i 0)
    ∙ ap spelling (sym more)
