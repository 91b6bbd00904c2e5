-- The rules of the store.
use Rattle.std.proofs.Common.{◌≡◌, ℕ, ◌<◌, ◌≤◌, List, length, get_or, Some, None, Option, Ok, Err, Result, refl, arith}
use Rattle.spares_store.proofs.Bounds.{bounded_set, bounded_moving}
use Rattle.spares_store.specs.Movements.{movement_of}
use Rattle.spares_store.specs.Outcomes.{after_moving, number}
use Rattle.spares_store.specs.Rules.{StoreRules}
use Rattle.spares_store.specs.Stocks.{Bounded, moved, outcome, settled}
use Rattle.spares_store.specs.declared.movement.Direction.TheVariants.{Out}
use Rattle.spares_store.specs.declared.movement.Movement.{Movement}
use Rattle.spares_store.specs.declared.refusal.Refusal.{Refusal}
use Rattle.spares_store.specs.declared.refusal.Refusal.TheVariants.{TooFew, TooMany, WrongPayload}
use Rattle.std.proofs.lemmas.List.{get_or-set_same, get_or-set_other, length-set}
use Rattle.std.proofs.lemmas.Bool.Decides.{nat_tests}

empty_by : (stock : ℕ) → stock ≡ 0 → number (after_moving Out stock 1) ≡ 100000
empty_by stock e = grind (arith, nat_tests)

unchanged_by :
    (stocks : List ℕ) (part : ℕ) (o : Result ℕ Refusal) → ((n : ℕ) → o ≡ Ok n → n ≤ 60000) → 60000 < number o
    → settled stocks part o ≡ stocks
unchanged_by stocks part (Ok n) b h = let small = b n refl in absurd (omega arith)
unchanged_by stocks part (Err refusal) b h = refl

unchanged : (stocks : List ℕ) (o : Option Movement) → Bounded stocks → 60000 < number (outcome stocks o) → moved stocks o ≡ stocks
unchanged stocks None b h = refl
unchanged stocks (Some m) b h =
    unchanged_by stocks m.part (outcome stocks (Some m))
    (λ n e. bounded_moving m.direction (get_or stocks m.part 0) m.quantity n (b m.part) e) h

new_by :
    (stocks : List ℕ) (part : ℕ) (o : Result ℕ Refusal) → part < length stocks → number o ≤ 60000
    → get_or (settled stocks part o) part 0 ≡ number o
new_by stocks part (Ok n) l h = get_or-set_same stocks part n 0 l
new_by stocks part (Err TooFew) l h = absurd (omega arith)
new_by stocks part (Err TooMany) l h = absurd (omega arith)
new_by stocks part (Err WrongPayload) l h = absurd (omega arith)

others_by :
    (stocks : List ℕ) (part : ℕ) (o : Result ℕ Refusal) (q : ℕ) → (q ≡ part → ⊥) → get_or (settled stocks part o) q 0 ≡ get_or stocks q 0
others_by stocks part (Ok n) q d = get_or-set_other stocks part q n 0 d
others_by stocks part (Err refusal) q d = refl

as_many_by : (stocks : List ℕ) (part : ℕ) (o : Result ℕ Refusal) → length (settled stocks part o) ≡ length stocks
as_many_by stocks part (Ok n) = length-set stocks part n
as_many_by stocks part (Err refusal) = refl

as_many : (stocks : List ℕ) (o : Option Movement) → length (moved stocks o) ≡ length stocks
as_many stocks None = refl
as_many stocks (Some m) = as_many_by stocks m.part (outcome stocks (Some m))

bounded_by :
    (stocks : List ℕ) (part : ℕ) (o : Result ℕ Refusal) → Bounded stocks → ((n : ℕ) → o ≡ Ok n → n ≤ 60000)
    → Bounded (settled stocks part o)
bounded_by stocks part (Ok n) b h = bounded_set stocks part n b (h n refl)
bounded_by stocks part (Err refusal) b h = b

bounded : (stocks : List ℕ) (o : Option Movement) → Bounded stocks → Bounded (moved stocks o)
bounded stocks None b = b
bounded stocks (Some m) b =
    bounded_by stocks m.part (outcome stocks (Some m)) b
    (λ n e. bounded_moving m.direction (get_or stocks m.part 0) m.quantity n (b m.part) e)

pub store_rules : StoreRules
store_rules =
    record {
      empty_stock = λ stocks p part e none. rw e (empty_by (get_or stocks part 0) none);
      unchanged = λ stocks p b h. unchanged stocks (movement_of p) b h;
      new_stock = λ stocks p m e l h. rw e (new_by stocks m.part (outcome stocks (Some m)) l (rw e at h));
      others = λ stocks p m q e d. rw e (others_by stocks m.part (outcome stocks (Some m)) q d);
      as_many = λ stocks p. as_many stocks (movement_of p);
      stays_bounded = λ stocks p b. bounded stocks (movement_of p) b;
    }
