-- Words of eight bytes, and what padding does to a message.
use Rattle.std.proofs.Common.{◌≡◌, ℕ, zero, suc, ◌+◌, ◌-◌, ◌*◌, ◌/◌, ◌%◌, ◌<◌, ◌≤◌, List, [], ◌∷◌, ◌++◌, length, get_or, take, drop, set, replicate, sym, refl, ap, ◌∙◌, add-one, mul-zero, arith, length-append}
use lib.ListN.{length-replicate}
use Rattle.std.specs.Int.{from_le_bytes, w64}
use Rattle.std.specs.Simd.{first_chunks}
use Rattle.std.proofs.lemmas.List.{take-append-le, take_all, drop-append-le, drop-drop, length-take, length-drop}
use Rattle.siphash.specs.declared.State.{State}
use Rattle.siphash.specs.Siphash.{little, padded, word, after, compressed}

-- eight bytes as a number
pub little_eight : (xs : List ℕ) → length xs ≡ 8 → from_le_bytes w64 xs ≡ little xs
unfolding little
little_eight [] h = absurd (omega arith)
little_eight (a ∷ []) h = absurd (omega arith)
little_eight (a ∷ b ∷ []) h = absurd (omega arith)
little_eight (a ∷ b ∷ c ∷ []) h = absurd (omega arith)
little_eight (a ∷ b ∷ c ∷ d ∷ []) h = absurd (omega arith)
little_eight (a ∷ b ∷ c ∷ d ∷ e ∷ []) h = absurd (omega arith)
little_eight (a ∷ b ∷ c ∷ d ∷ e ∷ f ∷ []) h = absurd (omega arith)
little_eight (a ∷ b ∷ c ∷ d ∷ e ∷ f ∷ g ∷ []) h = absurd (omega arith)
little_eight (a ∷ b ∷ c ∷ d ∷ e ∷ f ∷ g ∷ i ∷ []) h = omega arith
little_eight (a ∷ b ∷ c ∷ d ∷ e ∷ f ∷ g ∷ i ∷ j ∷ xs) h = absurd (omega arith)

-- up to seven bytes written to the front of eight null bytes, and the last byte set
pub topped_is : (xs : List ℕ) (n : ℕ) → length xs ≤ 7 → set (xs ++ drop (length xs) (replicate 8 0)) 7 n ≡ xs ++ (replicate (7 - length xs) 0 ++ n ∷ [])
topped_is [] n h = refl
topped_is (a ∷ []) n h = refl
topped_is (a ∷ b ∷ []) n h = refl
topped_is (a ∷ b ∷ c ∷ []) n h = refl
topped_is (a ∷ b ∷ c ∷ d ∷ []) n h = refl
topped_is (a ∷ b ∷ c ∷ d ∷ e ∷ []) n h = refl
topped_is (a ∷ b ∷ c ∷ d ∷ e ∷ f ∷ []) n h = refl
topped_is (a ∷ b ∷ c ∷ d ∷ e ∷ f ∷ g ∷ []) n h = refl
topped_is (a ∷ b ∷ c ∷ d ∷ e ∷ f ∷ g ∷ i ∷ xs) n h = absurd (omega arith)

-- block number i of a list that is cut into k blocks of n
chunk_at : (n k i : ℕ) (xs : List ℕ) → i < k → get_or (first_chunks n k xs) i [] ≡ take n (drop (n * i) xs)
chunk_at n zero i xs h = absurd (omega arith)
chunk_at n (suc k) zero xs h = rw (mul-zero n) refl
chunk_at n (suc k) (suc i) xs h =
    let a : i < k = omega arith in
    let s : n + n * i ≡ n * suc i = omega arith in
    chunk_at n k i (drop n xs) a ∙ ap (take n) (drop-drop (n * i) n xs) ∙ ap (λ j. take n (drop j xs)) s

-- block number i of some bytes, read lowest first, is their word number i
pub word_at : (bs : List ℕ) (i : ℕ) → i < length bs / 8 → from_le_bytes w64 (get_or (first_chunks 8 (length bs / 8) bs) i []) ≡ word bs i
unfolding word
word_at bs i h =
    let e = chunk_at 8 (length bs / 8) i bs h in
    let k : length (take 8 (drop (8 * i) bs)) ≡ 8 = simp (length-take, length-drop) (omega arith) in
    ap (from_le_bytes w64) e ∙ little_eight (take 8 (drop (8 * i) bs)) k

-- a whole word of the message is the same word of the padded message
pub word_padded : (m : List ℕ) (i : ℕ) → i < length m / 8 → word (padded m) i ≡ word m i
unfolding word padded
word_padded m i h =
    let rest : List ℕ = replicate (7 - length m % 8) 0 ++ (length m % 256) ∷ [] in
    let a : 8 * i ≤ length m = omega arith in
    let e = length-drop (8 * i) m in
    let k : 8 ≤ length (drop (8 * i) m) = omega arith in
    ap little (ap (take 8) (drop-append-le (8 * i) m rest a) ∙ take-append-le 8 (drop (8 * i) m) rest k)

-- the word after the last whole one, from its eight bytes
pub word_last : (m xs bs : List ℕ) → xs ≡ drop (length m / 8 * 8) m → bs ≡ xs ++ (replicate (7 - length xs) 0 ++ (length m % 256) ∷ []) → from_le_bytes w64 bs ≡ word (padded m) (length m / 8)
unfolding word padded
word_last m xs bs p q =
    let tail : List ℕ = replicate (7 - length m % 8) 0 ++ (length m % 256) ∷ [] in
    let e : length xs ≡ length m - length m / 8 * 8 = ap length p ∙ length-drop (length m / 8 * 8) m in
    let f : length xs ≡ length m % 8 = omega arith in
    let g : bs ≡ xs ++ tail = q ∙ ap (λ n. xs ++ (replicate (7 - n) 0 ++ (length m % 256) ∷ [])) f in
    let k : length (xs ++ tail) ≡ 8 = simp (length-append, length-replicate) (omega arith) in
    let s : 8 * (length m / 8) ≡ length m / 8 * 8 = omega arith in
    let b : length m / 8 * 8 ≤ length m = omega arith in
    let d : drop (8 * (length m / 8)) (m ++ tail) ≡ xs ++ tail = ap (λ n. drop n (m ++ tail)) s ∙ drop-append-le (length m / 8 * 8) m tail b ∙ ap (λ t. t ++ tail) (sym p) in
    let t : take 8 (xs ++ tail) ≡ xs ++ tail = take_all 8 (xs ++ tail) (omega arith) in
    ap (from_le_bytes w64) g ∙ little_eight (xs ++ tail) k ∙ ap little (sym (ap (take 8) d ∙ t))

pub after_more : (s : State) (bs : List ℕ) (n : ℕ) → after s bs (n + 1) ≡ compressed (after s bs n) (word bs n)
unfolding after
after_more s bs n = rw add-one
