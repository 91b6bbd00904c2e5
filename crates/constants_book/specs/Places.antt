-- The book's places, and what they mean: the first entry with a serial has its offset.
use Rattle.std.specs.Prelude.{◌≡◌, ℕ, suc, ◌<◌, Bool, true, cond, not, ◌&&◌, List, [], ◌∷◌, length, is_some, Some, None, Option, ◌==◌, slice_index_or}
use Rattle.constants.specs.Books.{Book}
use Rattle.constants.specs.declared.entry.Entry.{Entry}

abbrev pub meaning : List (Option Entry) → Book
meaning [] q = None
meaning (None ∷ places) q = meaning places q
meaning (Some e ∷ places) q = cond (q == e.serial) (Some e.offset) (meaning places q)

-- no serial stands in two places
abbrev pub apart : List (Option Entry) → Bool
apart [] = true
apart (None ∷ places) = apart places
apart (Some e ∷ places) = not (is_some (meaning places e.serial)) && apart places

-- the places that are taken
abbrev pub taken : List (Option Entry) → ℕ
taken [] = 0
taken (None ∷ places) = taken places
taken (Some e ∷ places) = suc (taken places)

-- the place i is one of these, and P holds of what it has
abbrev pub Holds : List (Option Entry) → (Option Entry → Type 0) → ℕ → Type 0
Holds places P i = (i < length places) × P (slice_index_or places i None)

-- a place with an entry of this serial
abbrev pub OfSerial : ℕ → Option Entry → Type 0
OfSerial serial None = ⊥
OfSerial serial (Some e) = e.serial ≡ serial

-- a place for this serial: the one that holds it, or a free one where none does
abbrev pub PlaceFor : ℕ → List (Option Entry) → Option Entry → Type 0
PlaceFor serial places None = meaning places serial ≡ None
PlaceFor serial places (Some e) = e.serial ≡ serial
