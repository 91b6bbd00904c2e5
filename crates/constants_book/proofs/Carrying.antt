-- What each way through a command does to what the table means.
use Rattle.std.proofs.Common.{◌≡◌, ℕ, ◌<◌, ◌≤◌, true, ◌||◌, ltb, List, length, get_or, set, ℤ, nat_abs, is_some, Some, None, Option, Ok, Err, Result, sym, refl, ap, ◌∙◌, subst, arith}
use Rattle.constants.specs.Books.{Book, Carried, held, outcome, settled, was, offset_in}
use Rattle.constants.specs.declared.command.Command.TheVariants.{Set, Clear}
use Rattle.constants.specs.declared.entry.Entry.{Entry}
use Rattle.constants.specs.declared.former.Former.{Former}
use Rattle.constants.specs.declared.refusal.Refusal.{Refusal}
use Rattle.constants.specs.declared.refusal.Refusal.TheVariants.{NoPlace}
use Rattle.constants_book.proofs.Tables.{holds, freed, freed_apart, counted, taken_free, put}
use Rattle.constants_book.specs.Places.{meaning, apart, taken, Holds, OfSerial, PlaceFor}
use Rattle.std.proofs.lemmas.Bool.{le-leb, lt-ltb, or_left, or_right}
use Rattle.std.proofs.lemmas.Bool.Decides.{nat_tests}
use Rattle.std.proofs.lemmas.List.{get_or_default}
use mathlib.Core.Path.{fun_ext}

-- no place for an entry
set_full :
    (es : List (Option Entry)) (e : Entry) → length es ≡ 64 → apart es ≡ true → meaning es e.serial ≡ None → taken es ≡ length es
    → Carried (meaning es) (Some (Set e.serial e.offset)) (Err NoPlace) (meaning es)
set_full es e n h new full =
    let c = counted es h in
    let r = e.ranged in
    let many : 64 ≤ held (meaning es) = omega arith in
    let no : outcome (meaning es) (Some (Set e.serial e.offset)) ≡ Err NoPlace = grind (arith, nat_tests) in
    record { answers = sym no; leaves = sym (ap (settled (meaning es) (Set e.serial e.offset)) no) }

-- what was in the place is what the serial had
had :
    (es : List (Option Entry)) (i s : ℕ) (x : Option Entry) → get_or es i None ≡ x → PlaceFor s es x → apart es ≡ true
    → meaning es s ≡ offset_in x
had es i s None at new h = new
had es i s (Some d) at same h = ap (meaning es) (sym same) ∙ holds es i d at h

-- there is a place
room :
    (es : List (Option Entry)) (i s : ℕ) (x : Option Entry) → length es ≡ 64 → i < length es → get_or es i None ≡ x → PlaceFor s es x
    → apart es ≡ true → (is_some (meaning es s) || ltb (held (meaning es)) 64) ≡ true
room es i s None n l at new h =
    let c = counted es h in
    let t = taken_free es i l at in
    let few : held (meaning es) < 64 = omega arith in
    or_right (is_some (meaning es s)) (ltb (held (meaning es)) 64) (lt-ltb (held (meaning es)) 64 few)
room es i s (Some d) n l at same h =
    or_left (is_some (meaning es s)) (ltb (held (meaning es)) 64) (ap is_some (had es i s (Some d) at same h))

set_carried :
    (es : List (Option Entry)) (i : ℕ) (e : Entry) (x : Option Entry) → length es ≡ 64 → i < length es → get_or es i None ≡ x
    → PlaceFor e.serial es x → apart es ≡ true
    → Carried (meaning es) (Some (Set e.serial e.offset)) (Ok (was (offset_in x))) (meaning (set es i (Some e)))
set_carried es i e x n l at place h =
    record {
      answers = ap (λ line. Ok (was line)) (sym (had es i e.serial x at place h)) ∙ sym done;
      leaves = (put es i e x l at place h).1 ∙ sym (ap (settled (meaning es) (Set e.serial e.offset)) done);
    }
  where
    done : outcome (meaning es) (Some (Set e.serial e.offset)) ≡ Ok (was (meaning es e.serial))
    done = let r = le-leb (nat_abs e.offset) 20000 e.ranged in let p = room es i e.serial x n l at place h in rw (r, p)

clear_carried :
    (es : List (Option Entry)) (i : ℕ) (d : Entry) → get_or es i None ≡ Some d → apart es ≡ true
    → Carried (meaning es) (Some (Clear d.serial)) (Ok (was (Some d.offset))) (meaning (set es i None))
clear_carried es i d at h =
    record {
      answers = sym done;
      leaves = fun_ext (freed es i d at h) ∙ sym (ap (settled (meaning es) (Clear d.serial)) done);
    }
  where
    done : outcome (meaning es) (Some (Clear d.serial)) ≡ Ok (was (Some d.offset))
    done = let e = holds es i d at h in grind arith

-- the same command under other names for its numbers
set_as :
    (f g : Book) (e : Entry) (s : ℕ) (o : ℤ) (r : Result Former Refusal) → (e.serial ≡ s) × (e.offset ≡ o)
    → Carried f (Some (Set e.serial e.offset)) r g → Carried f (Some (Set s o)) r g
set_as f g e s o r same h =
    subst (λ (t : ℕ). Carried f (Some (Set t o)) r g) same.0 (subst (λ (u : ℤ). Carried f (Some (Set e.serial u)) r g) same.1 h)

-- former is what the code keeps of the place i
kept :
    (es : List (Option Entry)) (i : ℕ) (x : Option Entry) (former : Former) → i < length es → former ≡ was (offset_in (get_or es i x))
    → former ≡ was (offset_in (get_or es i None))
kept es i x former l h = h ∙ ap (λ y. was (offset_in y)) (get_or_default es i x None l)

fitting : (es : List (Option Entry)) (i s : ℕ) (e : Entry) → e.serial ≡ s → Holds es (PlaceFor s es) i → PlaceFor e.serial es (get_or es i None)
fitting es i s e same place = subst (λ (t : ℕ). PlaceFor t es (get_or es i None)) (sym same) place.1

-- a place for the serial takes the entry
pub apart_set :
    (es : List (Option Entry)) (i s : ℕ) (e : Entry) → apart es ≡ true → e.serial ≡ s → Holds es (PlaceFor s es) i
    → apart (set es i (Some e)) ≡ true
apart_set es i s e h same place = (put es i e _ place.0 refl (fitting es i s e same place) h).0

pub set_done :
    (es : List (Option Entry)) (i s : ℕ) (o : ℤ) (e : Entry) (x : Option Entry) (former : Former) → length es ≡ 64 → apart es ≡ true
    → (e.serial ≡ s) × (e.offset ≡ o) → Holds es (PlaceFor s es) i → former ≡ was (offset_in (get_or es i x))
    → Carried (meaning es) (Some (Set s o)) (Ok former) (meaning (set es i (Some e)))
set_done es i s o e x former n h same place k =
    set_as (meaning es) (meaning (set es i (Some e))) e s o (Ok former) same
    (subst (λ (f : Former). Carried (meaning es) (Some (Set e.serial e.offset)) (Ok f) (meaning (set es i (Some e))))
    (sym (kept es i x former place.0 k)) (set_carried es i e _ n place.0 refl (fitting es i s e same.0 place) h))

pub set_refused :
    (es : List (Option Entry)) (s : ℕ) (o : ℤ) (e : Entry) → length es ≡ 64 → apart es ≡ true → (e.serial ≡ s) × (e.offset ≡ o)
    → (meaning es s ≡ None) × (taken es ≡ length es) → Carried (meaning es) (Some (Set s o)) (Err NoPlace) (meaning es)
set_refused es s o e n h same full =
    set_as (meaning es) (meaning es) e s o (Err NoPlace) same (set_full es e n h (ap (meaning es) same.0 ∙ full.0) full.1)

-- a place that holds the serial is freed
cleared :
    (es : List (Option Entry)) (i s : ℕ) (x : Option Entry) → get_or es i None ≡ x → OfSerial s x → apart es ≡ true
    → (apart (set es i None) ≡ true) × Carried (meaning es) (Some (Clear s)) (Ok (was (offset_in x))) (meaning (set es i None))
cleared es i s None at held h = absurd held
cleared es i s (Some d) at held h = (
  freed_apart es i d at h,
  subst (λ (t : ℕ). Carried (meaning es) (Some (Clear t)) (Ok (was (Some d.offset))) (meaning (set es i None))) held (clear_carried es i d at h),
)

pub apart_cleared :
    (es : List (Option Entry)) (i s : ℕ) → apart es ≡ true → Holds es (OfSerial s) i → apart (set es i None) ≡ true
apart_cleared es i s h place = (cleared es i s _ refl place.1 h).0

pub clear_done :
    (es : List (Option Entry)) (i s : ℕ) (x : Option Entry) (former : Former) → apart es ≡ true → Holds es (OfSerial s) i
    → former ≡ was (offset_in (get_or es i x))
    → Carried (meaning es) (Some (Clear s)) (Ok former) (meaning (set es i None))
clear_done es i s x former h place k =
    subst (λ (f : Former). Carried (meaning es) (Some (Clear s)) (Ok f) (meaning (set es i None)))
    (sym (kept es i x former place.0 k)) (cleared es i s _ refl place.1 h).1

-- looking up a serial that stands in a place
pub looked_up :
    (es : List (Option Entry)) (i s : ℕ) (x : Option Entry) → apart es ≡ true → Holds es (OfSerial s) i → x ≡ get_or es i x
    → meaning es s ≡ offset_in x
looked_up es i s x h place at =
    go (get_or es i None) refl place.1 ∙ ap offset_in (sym (at ∙ get_or_default es i x None place.0))
  where
    go : (y : Option Entry) → get_or es i None ≡ y → OfSerial s y → meaning es s ≡ offset_in y
    go None e held = absurd held
    go (Some d) e held = ap (meaning es) (sym held) ∙ holds es i d e h
