-- A number in one, two, four and eight bytes, written out as the machine gives them. Assumes nothing.
use Rattle.std.proofs.Common.{◌≡◌, ℕ, ◌/◌, ◌%◌, ◌<◌, [], ◌∷◌, sym, refl, ap, ◌∙◌, mod-eq_of_lt}
use Rattle.std.proofs.lemmas.Nat.{shr-shr}
use Rattle.records.specs.Numbers.{put}

pub put_one : (n : ℕ) → n < 256 → n ∷ [] ≡ put 1 n
unfolding put
put_one n h = ap (λ b. b ∷ []) (sym (mod-eq_of_lt h))

pub put_two : (n : ℕ) → (n / 256 % 256) ∷ (n % 256) ∷ [] ≡ put 2 n
unfolding put
put_two n = refl

pub put_four : (n : ℕ) → (n / 16777216 % 256) ∷ (n / 65536 % 256) ∷ (n / 256 % 256) ∷ (n % 256) ∷ [] ≡ put 4 n
unfolding put
put_four n =
    let two : n / 256 / 256 ≡ n / 65536 = shr-shr n 8 8 in
    let three : n / 256 / 256 / 256 ≡ n / 16777216 = ap (λ m. m / 256) two ∙ shr-shr n 16 8 in
    rw (three, two)

pub put_eight : (n : ℕ) → (n / 72057594037927936 % 256) ∷ (n / 281474976710656 % 256) ∷ (n / 1099511627776 % 256) ∷ (n / 4294967296 % 256) ∷ (n / 16777216 % 256) ∷ (n / 65536 % 256) ∷ (n / 256 % 256) ∷ (n % 256) ∷ [] ≡ put 8 n
unfolding put
put_eight n =
    let two : n / 256 / 256 ≡ n / 65536 = shr-shr n 8 8 in
    let three : n / 256 / 256 / 256 ≡ n / 16777216 = ap (λ m. m / 256) two ∙ shr-shr n 16 8 in
    let four : n / 256 / 256 / 256 / 256 ≡ n / 4294967296 = ap (λ m. m / 256) three ∙ shr-shr n 24 8 in
    let five : n / 256 / 256 / 256 / 256 / 256 ≡ n / 1099511627776 = ap (λ m. m / 256) four ∙ shr-shr n 32 8 in
    let six : n / 256 / 256 / 256 / 256 / 256 / 256 ≡ n / 281474976710656 = ap (λ m. m / 256) five ∙ shr-shr n 40 8 in
    let seven : n / 256 / 256 / 256 / 256 / 256 / 256 / 256 ≡ n / 72057594037927936 = ap (λ m. m / 256) six ∙ shr-shr n 48 8 in
    rw (seven, six, five, four, three, two)
