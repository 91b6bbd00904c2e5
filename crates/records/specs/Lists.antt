-- What a short list means: its first values, the rest being filler.
use Rattle.std.specs.Prelude.{ℕ, ◌+◌, ◌-◌, cond, List, ◌++◌, length, take, replicate, nat_lt, slice_set}
use Rattle.records.specs.declared.few.Few.{Few}

-- the values of a short list
abbrev pub listed : {T : Type 0} {n : ℕ} → Few T n → List T
listed few = take few.len few.items

-- no value yet, n places filled with a blank
abbrev pub bare : {T : Type 0} → T → (n : ℕ) → Few T n
bare blank n = record { items = replicate n blank; len = 0 }

-- one value more, where there is a place
abbrev pub pushed : {T : Type 0} → (n : ℕ) → Few T n → T → Few T n
pushed n few value = cond (nat_lt few.len n) (record { items = slice_set few.items few.len value; len = few.len + 1 }) few

-- these values, with blanks after them
abbrev pub filled : {T : Type 0} → T → (n : ℕ) → List T → Few T n
filled blank n values = record { items = values ++ replicate (n - length values) blank; len = length values }
