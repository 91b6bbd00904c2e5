-- Rows of places: the library's words on their searches, and what an entry in the first free place changes.
use Rattle.std.proofs.Common.{◌≡◌, ℕ, false, not, cond, eqb, List, [], ◌∷◌, set, is_some, Some, None, Option, refl, ap, subst, arith}
use Rattle.std.proofs.lemmas.Bool.Decides.{nat_tests}
use Rattle.std.proofs.lemmas.Iterator.{YieldsList}
use Rattle.std.proofs.lemmas.Iterator.Consumers.{YieldsList-from_shown}
use Rattle.std.specs.Iterator.Adapters.{option_iter_item, option_iter_done, option_iter_steps}
use Rattle.std.specs.List.{find, flat_map, position}
use Rattle.std.specs.Option.{MatchOption, IsSomeAnd, option_map, option_to_list}
use Rattle.signers.specs.declared.row.Entry.{Entry}
use Rattle.signers.specs.Rows.{found, full, first_free}

-- an option yields its value, once
pub option_yields : {X : Type 0} (o : Option X) {s : _} → option_iter_item s ≡ o → option_iter_done s ≡ false → YieldsList (option_iter_steps {A = X}) (λ y. y.now) s (option_to_list o)
option_yields o {s} e d =
    subst (λ xs. YieldsList option_iter_steps (λ y. y.now) s xs) (grind arith)
    (YieldsList-from_shown option_iter_steps (λ y. y.now) (λ t. cond (option_iter_done t) [] (option_to_list (option_iter_item t))) (λ t u h. grind arith) (λ t x u h. grind arith) s)

-- what `map` makes of an option, from its clause and from what the closure answers
pub mapped : {A B C : Type 0} (v : A → B) (h : B → C) (o : Option A) (r : Option C) (P : A → C → Type 0) → MatchOption o (r ≡ None) (λ x. IsSomeAnd r (P x)) → ((x : A) (y : C) → P x y → y ≡ h (v x)) → r ≡ option_map h (option_map v o)
mapped v h None r P m f = m
mapped v h (Some x) None P m f = absurd (grind arith)
mapped v h (Some x) (Some y) P m f = ap Some (f x y m)

-- the first entry with a number has the secret that the row holds for it
pub found_by_find : {T : Type 0} (row : List (Option (Entry T))) (n : ℕ) → option_map (λ (e : Entry T). e.secret) (find (λ (e : Entry T). eqb e.number n) (flat_map option_to_list row)) ≡ found row n
found_by_find [] n = refl
found_by_find (None ∷ row) n = found_by_find row n
found_by_find (Some entry ∷ row) n = let ih = found_by_find row n in grind arith

-- the place of the first free one among the places
pub free_by_position : {T : Type 0} (row : List (Option (Entry T))) → position (λ p. not (is_some p)) row ≡ cond (full row) None (Some (first_free row))
free_by_position [] = refl
free_by_position (None ∷ row) = grind arith
free_by_position (Some entry ∷ row) = let ih = free_by_position row in grind arith

-- an entry with a new number in the first free place: its number has its secret, every other number what it had
found_set : {T : Type 0} (row : List (Option (Entry T))) (entry : Entry T) (m : ℕ) → full row ≡ false → is_some (found row entry.number) ≡ false → found (set row (first_free row) (Some entry)) m ≡ cond (eqb entry.number m) (Some entry.secret) (found row m)
found_set [] entry m h k = absurd (grind arith)
found_set (None ∷ row) entry m h k = refl
found_set (Some d ∷ row) entry m h k =
    let j : is_some (found row entry.number) ≡ false = grind (arith, nat_tests) in
    let ih = found_set row entry m h j in
    grind (arith, nat_tests)

-- the same of the place that the search for a free one gave
pub found_put : {T : Type 0} (row : List (Option (Entry T))) (entry : Entry T) (m place : ℕ) → Some place ≡ cond (full row) None (Some (first_free row)) → is_some (found row entry.number) ≡ false → found (set row place (Some entry)) m ≡ cond (eqb entry.number m) (Some entry.secret) (found row m)
found_put row entry m place e k =
    let h : full row ≡ false = grind arith in
    let p : place ≡ first_free row = grind arith in
    rw p (found_set row entry m h k)
