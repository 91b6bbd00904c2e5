-- Writing one place of a table, and what the table then means.
use Rattle.std.proofs.Common.{◌≡◌, ℕ, zero, suc, ◌^◌, ◌<◌, ◌≤◌, true, not, List, [], ◌∷◌, length, get_or, set, ℤ, is_some, Some, None, Option, sym, refl, ap, ◌∙◌, subst, ⊎_elim, le_of_suc-le-suc, not-suc-le-zero, arith}
use Rattle.constants.proofs.Counting.{held_written, held_empty, one_if}
use Rattle.constants.specs.Books.{Sound, written, held_below}
use Rattle.constants.specs.Ranges.{InRange}
use Rattle.constants.specs.declared.entry.Entry.{Entry}
use Rattle.constants_book.specs.Places.{meaning, apart, taken, PlaceFor}
use Rattle.std.proofs.lemmas.List.{set-set, length-set, get_or-set_same}
use Rattle.std.proofs.lemmas.Bool.{and_parts, and_from, cases_eq}
use Rattle.std.proofs.lemmas.Bool.Decides.{nat_tests}
use mathlib.Core.Path.{fun_ext}

-- the first entry's serial is not among the others, which are apart too
apart_rest :
    (d : Entry) (es : List (Option Entry)) → apart (Some d ∷ es) ≡ true → (meaning es d.serial ≡ None) × (apart es ≡ true)
apart_rest d es h =
    let parts = and_parts (not (is_some (meaning es d.serial))) (apart es) h in
    (go (meaning es d.serial) parts.0, parts.1)
  where
    go : (o : Option ℤ) → not (is_some o) ≡ true → o ≡ None
    go None h = refl
    go (Some x) h = absurd (grind arith)

apart_more :
    (d : Entry) (es : List (Option Entry)) → meaning es d.serial ≡ None → apart es ≡ true → apart (Some d ∷ es) ≡ true
apart_more d es new h = and_from (not (is_some (meaning es d.serial))) (apart es) (ap (λ o. not (is_some o)) new) h

-- an entry that stands in the table is what the table means for its serial
pub holds :
    (es : List (Option Entry)) (i : ℕ) (e : Entry) → get_or es i None ≡ Some e → apart es ≡ true
    → meaning es e.serial ≡ Some e.offset
holds [] i e at h = absurd (grind arith)
holds (None ∷ es) zero e at h = absurd (grind arith)
holds (None ∷ es) (suc i) e at h = holds es i e at h
holds (Some d ∷ es) zero e at h = let same : d ≡ e = cc in grind (arith, nat_tests)
holds (Some d ∷ es) (suc i) e at h =
    let rest = apart_rest d es h in
    let ih = holds es i e at rest.1 in
    grind (arith, nat_tests)

-- an entry of a new serial in a free place
pub filled :
    (es : List (Option Entry)) (i : ℕ) (e : Entry) → i < length es → get_or es i None ≡ None → meaning es e.serial ≡ None
    → (q : ℕ) → meaning (set es i (Some e)) q ≡ written (meaning es) e.serial (Some e.offset) q
filled [] i e l free new q = absurd (not-suc-le-zero l)
filled (None ∷ es) zero e l free new q = refl
filled (Some d ∷ es) zero e l free new q = absurd (grind arith)
filled (None ∷ es) (suc i) e l free new q = filled es i e (le_of_suc-le-suc l) free new q
filled (Some d ∷ es) (suc i) e l free new q =
    let new' : meaning es e.serial ≡ None = grind (arith, nat_tests) in
    let ih = filled es i e (le_of_suc-le-suc l) free new' q in
    grind (arith, nat_tests)

pub filled_apart :
    (es : List (Option Entry)) (i : ℕ) (e : Entry) → i < length es → get_or es i None ≡ None → meaning es e.serial ≡ None
    → apart es ≡ true → apart (set es i (Some e)) ≡ true
filled_apart [] i e l free new h = absurd (not-suc-le-zero l)
filled_apart (None ∷ es) zero e l free new h = apart_more e es new h
filled_apart (Some d ∷ es) zero e l free new h = absurd (grind arith)
filled_apart (None ∷ es) (suc i) e l free new h = filled_apart es i e (le_of_suc-le-suc l) free new h
filled_apart (Some d ∷ es) (suc i) e l free new h =
    let rest = apart_rest d es h in
    let new' : meaning es e.serial ≡ None = grind (arith, nat_tests) in
    let at-d = filled es i e (le_of_suc-le-suc l) free new' d.serial in
    let none : meaning (set es i (Some e)) d.serial ≡ None = grind (arith, nat_tests) in
    apart_more d (set es i (Some e)) none (filled_apart es i e (le_of_suc-le-suc l) free new' rest.1)

-- a place that is freed
pub freed :
    (es : List (Option Entry)) (i : ℕ) (e : Entry) → get_or es i None ≡ Some e → apart es ≡ true
    → (q : ℕ) → meaning (set es i None) q ≡ written (meaning es) e.serial None q
freed [] i e at h q = absurd (grind arith)
freed (None ∷ es) zero e at h q = absurd (grind arith)
freed (None ∷ es) (suc i) e at h q = freed es i e at h q
freed (Some d ∷ es) zero e at h q =
    let same : d ≡ e = cc in let rest = apart_rest d es h in grind (arith, nat_tests)
freed (Some d ∷ es) (suc i) e at h q =
    let rest = apart_rest d es h in
    let there = holds es i e at rest.1 in
    let ih = freed es i e at rest.1 q in
    grind (arith, nat_tests)

pub freed_apart :
    (es : List (Option Entry)) (i : ℕ) (e : Entry) → get_or es i None ≡ Some e → apart es ≡ true → apart (set es i None) ≡ true
freed_apart [] i e at h = absurd (grind arith)
freed_apart (None ∷ es) zero e at h = absurd (grind arith)
freed_apart (None ∷ es) (suc i) e at h = freed_apart es i e at h
freed_apart (Some d ∷ es) zero e at h = (apart_rest d es h).1
freed_apart (Some d ∷ es) (suc i) e at h =
    let rest = apart_rest d es h in
    let at-d = freed es i e at rest.1 d.serial in
    let none : meaning (set es i None) d.serial ≡ None = grind (arith, nat_tests) in
    apart_more d (set es i None) none (freed_apart es i e at rest.1)

-- as many entries as places that are taken
pub counted : (es : List (Option Entry)) → apart es ≡ true → held_below (meaning es) (2 ^ 32) ≡ taken es
counted [] h = held_empty (2 ^ 32)
counted (None ∷ es) h = counted es h
counted (Some d ∷ es) h =
    let rest = apart_rest d es h in
    let one = held_written (meaning es) d.serial (2 ^ 32) (Some d.offset) d.numbered in
    let none : one_if (meaning es d.serial) ≡ 0 = ap one_if rest.0 in
    let ih = counted es rest.1 in
    omega arith

pub taken_all : (es : List (Option Entry)) → taken es ≤ length es
taken_all [] = omega arith
taken_all (None ∷ es) = let ih = taken_all es in omega arith
taken_all (Some d ∷ es) = let ih = taken_all es in omega arith

pub taken_free : (es : List (Option Entry)) (i : ℕ) → i < length es → get_or es i None ≡ None → taken es < length es
taken_free [] i l free = absurd (not-suc-le-zero l)
taken_free (None ∷ es) zero l free = let all = taken_all es in omega arith
taken_free (Some d ∷ es) zero l free = absurd (grind arith)
taken_free (None ∷ es) (suc i) l free = let ih = taken_free es i (le_of_suc-le-suc l) free in omega arith
taken_free (Some d ∷ es) (suc i) l free = let ih = taken_free es i (le_of_suc-le-suc l) free in omega arith

meaning_ranged : (es : List (Option Entry)) (q : ℕ) (o : ℤ) → meaning es q ≡ Some o → InRange o
meaning_ranged [] q o e = absurd (grind arith)
meaning_ranged (None ∷ es) q o e = meaning_ranged es q o e
meaning_ranged (Some d ∷ es) q o e =
    ⊎_elim
    (λ (here : q ≡ d.serial). let same : d.offset ≡ o = grind (arith, nat_tests) in subst InRange same d.ranged)
    (λ (other : q ≡ d.serial → ⊥). let later : meaning es q ≡ Some o = grind (arith, nat_tests) in meaning_ranged es q o later)
    (cases_eq q d.serial)

meaning_serials : (es : List (Option Entry)) (q : ℕ) → 2 ^ 32 ≤ q → meaning es q ≡ None
meaning_serials [] q h = refl
meaning_serials (None ∷ es) q h = meaning_serials es q h
meaning_serials (Some d ∷ es) q h =
    let ih = meaning_serials es q h in let fits = d.numbered in grind (arith, nat_tests)

-- what a table of 64 places means is a sound book
pub sound : (es : List (Option Entry)) → length es ≡ 64 → apart es ≡ true → Sound (meaning es)
sound es n h = record {
  few = let c = counted es h in let t = taken_all es in omega arith;
  ranged = meaning_ranged es;
  serials = meaning_serials es;
}

-- an entry written into a place for it
pub put :
    (es : List (Option Entry)) (i : ℕ) (e : Entry) (x : Option Entry) → i < length es → get_or es i None ≡ x
    → PlaceFor e.serial es x → apart es ≡ true
    → (apart (set es i (Some e)) ≡ true) × (meaning (set es i (Some e)) ≡ written (meaning es) e.serial (Some e.offset))
put es i e None l at new h =
    (filled_apart es i e l at new h, fun_ext (filled es i e l at new))
put es i e (Some d) l at same h = (
  subst (λ ps. apart ps ≡ true) again (filled_apart (set es i None) i e l' free new (freed_apart es i d at h)),
  ap meaning (sym again) ∙ fun_ext (filled (set es i None) i e l' free new) ∙ fun_ext twice,
)
  where
    again : set (set es i None) i (Some e) ≡ set es i (Some e)
    again = set-set es i None (Some e)

    l' : i < length (set es i None)
    l' = rw length-set l

    free : get_or (set es i None) i None ≡ None
    free = get_or-set_same es i None None l

    new : meaning (set es i None) e.serial ≡ None
    new = let f = freed es i d at h e.serial in grind (arith, nat_tests)

    twice : (q : ℕ) → written (meaning (set es i None)) e.serial (Some e.offset) q ≡ written (meaning es) e.serial (Some e.offset) q
    twice q = let f = freed es i d at h q in grind (arith, nat_tests)
