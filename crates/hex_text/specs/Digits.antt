-- What hexadecimal digits spell: two digits a byte, the higher first.
use Rattle.std.specs.Prelude.{ℕ, zero, suc, ◌+◌, ◌-◌, ◌*◌, ◌/◌, ◌%◌, Bool, cond, ◌&&◌, List, [], ◌∷◌, ◌++◌, length, Some, None, Option, ◌==◌, nat_le, nat_lt, if◌then◌else◌, slice_index}
use Rattle.std.specs.List.{flat_map}

-- a character from one to another
abbrev pub within : ℕ → ℕ → ℕ → Bool
within low high c = nat_le low c && nat_le c high

-- '0' to '9', 'a' to 'f', 'A' to 'F'
abbrev pub digit_of : ℕ → Option ℕ
digit_of c =
    cond (within 48 57 c) (Some (c - 48))
    (cond (within 97 102 c) (Some (c - 97 + 10))
    (cond (within 65 70 c) (Some (c - 65 + 10)) None))

-- go on with a value, where there is one
infixr 1 ◌and◌
abbrev pub ◌and◌ : {A B : Type 0} → Option A → (A → Option B) → Option B
None and f = None
Some x and f = f x

abbrev pub byte_of : ℕ → ℕ → Option ℕ
byte_of high low = digit_of high and (λ h. digit_of low and (λ l. Some (h * 16 + l)))

-- the first k bytes
abbrev pub spelled : List ℕ → ℕ → Option (List ℕ)
spelled cs zero = Some []
spelled cs (suc k) =
    spelled cs k and (λ bs. byte_of (slice_index cs (2 * k)) (slice_index cs (2 * k + 1)) and (λ b. Some (bs ++ (b ∷ []))))

abbrev pub decoded : List ℕ → Option (List ℕ)
decoded cs = cond (length cs % 2 == 0) (spelled cs (length cs / 2)) None

-- bytes, where there are just n of them
abbrev pub exactly : ℕ → Option (List ℕ) → Option (List ℕ)
exactly n o = o and (λ bs. if length bs == n then Some bs else None)

-- the digit of a value below 16, in lower case
abbrev pub character : ℕ → ℕ
character d = if nat_lt d 10 then 48 + d else 87 + d

-- two digits for each byte
abbrev pub spelling : List ℕ → List ℕ
spelling bytes = flat_map (λ b. character (b / 16) ∷ character (b % 16) ∷ []) bytes
