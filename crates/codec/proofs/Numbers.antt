-- Numbers as bytes: a number in k bytes has k bytes, and is read back from them; k bytes are those of their number.
-- Assumes nothing.
use Rattle.std.proofs.Common.{◌≡◌, ℕ, zero, suc, ◌+◌, ◌*◌, ◌/◌, ◌%◌, ◌^◌, ◌<◌, ◌≤◌, List, [], ◌∷◌, ◌++◌, length, get_or, take, sym, refl, ap, ◌∙◌, subst, pow-suc, div-add-mod', add-one, arith, length-append}
use Rattle.std.proofs.lemmas.List.{length_push, length-take-le, take_more, take_all, nil_from_length}
use Rattle.std.proofs.ByRecursion.{All-take, All-get_or}
use Rattle.std.proofs.lemmas.Int.Digits.{number_push, number_lt}
use Rattle.std.proofs.lemmas.Nat.{div_below, div-mul-add, mod-mul-add}
use Rattle.records.specs.Numbers.{put, number_of}
use Rattle.records.specs.Range.{Byte, Bytes, Fits}

pub put_length : (k n : ℕ) → length (put k n) ≡ k
unfolding put
put_length zero n = refl
put_length (suc k) n = let e = put_length k (n / 256) in length_push (put k (n / 256)) (n % 256) ∙ ap (λ m. m + 1) e ∙ add-one k

pub sealed_length : (xs : List ℕ) (seal : ℕ) → length (xs ++ put 8 seal) ≡ length xs + 8
sealed_length xs seal = simp (length-append, put_length)

fits_half : (k n : ℕ) → Fits (suc k) n → Fits k (n / 256)
fits_half k n h = div_below n 256 (256 ^ k) (omega arith) (subst (λ m. n < m) (pow-suc 256 k) h)

pub number_put : (k n : ℕ) → Fits k n → number_of (put k n) ≡ n
unfolding put
number_put zero n h = omega arith
number_put (suc k) n h =
    let e = number_put k (n / 256) (fits_half k n h) in
    number_push 256 (put k (n / 256)) (n % 256) ∙ ap (λ m. m * 256 + n % 256) e ∙ div-add-mod' n 256

-- the last byte of k + 1 bytes
pub snoc_is : {A : Type 0} (k : ℕ) (xs : List A) (d : A) → length xs ≡ suc k → xs ≡ take k xs ++ get_or xs k d ∷ []
snoc_is k xs d h =
    let in-it : k < length xs = omega arith in
    let whole : length xs ≤ k + 1 = omega arith in
    sym (take_all (k + 1) xs whole) ∙ take_more xs k d in-it

pub put_number : (k : ℕ) (xs : List ℕ) → length xs ≡ k → Bytes xs → put k (number_of xs) ≡ xs
unfolding put
put_number zero xs h b = sym (nil_from_length xs h)
put_number (suc k) xs h b =
    let split = snoc_is k xs 0 h in
    let in-it : k < length xs = omega arith in
    let last : get_or xs k 0 < 256 = All-get_or Byte xs k 0 in-it b in
    let front : length (take k xs) ≡ k = length-take-le k xs (omega arith) in
    let e : number_of xs ≡ number_of (take k xs) * 256 + get_or xs k 0 =
    ap number_of split ∙ number_push 256 (take k xs) (get_or xs k 0) in
    let high : number_of xs / 256 ≡ number_of (take k xs) =
    ap (λ m. m / 256) e ∙ div-mul-add (number_of (take k xs)) 256 (get_or xs k 0) last in
    let low : number_of xs % 256 ≡ get_or xs k 0 =
    ap (λ m. m % 256) e ∙ mod-mul-add (number_of (take k xs)) 256 (get_or xs k 0) last in
    let ih = put_number k (take k xs) front (All-take Byte k xs b) in
    ap (λ m. put k m ++ (number_of xs % 256 ∷ [])) high ∙ ap (λ m. put k (number_of (take k xs)) ++ (m ∷ [])) low
    ∙ ap (λ l. l ++ (get_or xs k 0 ∷ [])) ih ∙ sym split

-- k bytes write a number that fits
pub number_fits : (k : ℕ) (xs : List ℕ) → length xs ≡ k → Bytes xs → Fits k (number_of xs)
number_fits k xs h b = subst (λ m. number_of xs < 256 ^ m) h (number_lt 256 xs b)
