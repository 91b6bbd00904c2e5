-- What pushing into a short list with room makes of its values. Assumes nothing.
use Rattle.std.proofs.Common.{◌≡◌, ℕ, ◌+◌, ◌<◌, ◌≤◌, ltb, [], ◌∷◌, ◌++◌, length, take, set, ap, ◌∙◌, add-one, arith, length-take-le, length-set}
use Rattle.std.proofs.Math.Seq.{take-suc-set}
use Rattle.std.proofs.lemmas.Bool.{cond-true, lt-ltb}
use Rattle.records.specs.Lists.{listed, pushed}
use Rattle.records.specs.declared.few.Few.{Few}

-- a place is left where fewer values are there
pub room_left : {A : Type 0} {n : ℕ} (few : Few A n) → length few.items ≡ n → few.len ≤ n → length (listed few) < n → few.len < n
room_left few long low h = omega (arith, length-take-le few.len few.items (omega arith))

-- the value behind the others, in as many places
pub record Pushed {A : Type 0} {n : ℕ} (few few' : Few A n) (x : A) : Type 0 where
  pub values : listed few' ≡ listed few ++ x ∷ []
  pub long : length few'.items ≡ length few.items
  pub len : few'.len ≡ few.len + 1

pub pushed_behind : {A : Type 0} {n : ℕ} (few few' : Few A n) (x : A) → length few.items ≡ n → few.len < n → few' ≡ pushed n few x → Pushed few few' x
pushed_behind {A} {n} few few' x long h e =
    let is : few' ≡ record { items = set few.items few.len x; len = few.len + 1 } =
    e ∙ cond-true (ltb few.len n) (record { items = set few.items few.len x; len = few.len + 1 }) few (lt-ltb few.len n h) in
    record {
      values =
          ap listed is
          ∙ ap (λ k. take k (set few.items few.len x)) (add-one few.len)
          ∙ take-suc-set few.items few.len x (omega arith);
      long = ap (λ (f : Few A n). length f.items) is ∙ length-set few.items few.len x;
      len = ap (λ (f : Few A n). f.len) is;
    }
