-- What a search of the places finds.
use Rattle.std.proofs.Common.{◌≡◌, ℕ, Bool, true, false, eqb, List, [], ◌∷◌, length, get_or, Some, None, Option, MatchOption, sym, refl, subst, arith}
use Rattle.constants.specs.declared.entry.Entry.{Entry}
use Rattle.constants_book.specs.Places.{meaning, taken, Holds, OfSerial, PlaceFor}
use Rattle.std.proofs.lemmas.Bool.Decides.{nat_tests}
use Rattle.std.proofs.lemmas.Grind.{common_steps}
use Rattle.std.proofs.lemmas.List.Quantifiers.{position-Some}
use Rattle.std.specs.List.{position}
use Rattle.std.specs.Option.{is_none}

-- as a test
abbrev pub of_serial : ℕ → Option Entry → Bool
of_serial serial None = false
of_serial serial (Some e) = eqb e.serial serial

of_serial-true : (s : ℕ) (x : Option Entry) → of_serial s x ≡ true → OfSerial s x
of_serial-true s None h = absurd (grind arith)
of_serial-true s (Some e) h = grind (arith, nat_tests)

is_none-true : (x : Option Entry) → is_none x ≡ true → x ≡ None
is_none-true None h = refl
is_none-true (Some e) h = absurd (grind arith)

meaning-none : (s : ℕ) (es : List (Option Entry)) → position (of_serial s) es ≡ None → meaning es s ≡ None
meaning-none s [] h = refl
meaning-none s (None ∷ es) h = meaning-none s es (grind (arith, common_steps))
meaning-none s (Some e ∷ es) h = let ih = meaning-none s es (grind (arith, common_steps)) in grind (arith, nat_tests)

taken-all : (es : List (Option Entry)) → position is_none es ≡ None → taken es ≡ length es
taken-all [] h = refl
taken-all (None ∷ es) h = absurd (grind (arith, common_steps))
taken-all (Some e ∷ es) h = let ih = taken-all es (grind (arith, common_steps)) in omega arith

pub place_found :
    (s : ℕ) (es : List (Option Entry)) (r : Option ℕ) → r ≡ position (of_serial s) es
    → MatchOption r (meaning es s ≡ None) (Holds es (OfSerial s))
place_found s es None e = meaning-none s es (grind arith)
place_found s es (Some i) e =
    let at = position-Some (of_serial s) es i None (grind arith) in (at.0, of_serial-true s (get_or es i None) at.1)

pub free_found :
    (es : List (Option Entry)) (r : Option ℕ) → r ≡ position is_none es
    → MatchOption r (taken es ≡ length es) (Holds es (λ place. place ≡ None))
free_found es None e = taken-all es (grind arith)
free_found es (Some i) e =
    let at = position-Some is_none es i None (grind arith) in (at.0, is_none-true (get_or es i None) at.1)

for_serial : (s : ℕ) (es : List (Option Entry)) (x : Option Entry) → OfSerial s x → PlaceFor s es x
for_serial s es None h = absurd h
for_serial s es (Some e) h = h

-- the place that holds the serial, or else a free one
pub place_or_free :
    (s : ℕ) (es : List (Option Entry)) (p r : Option ℕ) → MatchOption p (meaning es s ≡ None) (Holds es (OfSerial s))
    → MatchOption p (MatchOption r (taken es ≡ length es) (Holds es (λ place. place ≡ None))) (λ i. r ≡ Some i)
    → MatchOption r ((meaning es s ≡ None) × (taken es ≡ length es)) (Holds es (PlaceFor s es))
place_or_free s es None None h k = (h, k)
place_or_free s es None (Some i) h k = (k.0, subst (PlaceFor s es) (sym k.1) h)
place_or_free s es (Some i) r h k =
    subst (λ r. MatchOption r ((meaning es s ≡ None) × (taken es ≡ length es)) (Holds es (PlaceFor s es))) (sym k)
    (h.0, for_serial s es (get_or es i None) h.1)
