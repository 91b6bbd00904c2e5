-- Undoing gives the stocks as they were.
use Rattle.std.proofs.Common.{◌≡◌, ℕ, ◌<◌, ◌≤◌, Bool, true, false, cond, List, get_or, set, Some, None, Option, Ok, Err, Result, refl, ap, ◌∙◌, arith}
use Rattle.payload.specs.declared.payload.Payload.{Payload}
use Rattle.services.specs.declared.slip.Slip.{Slip}
use Rattle.spares_store.specs.Movements.{movement_of, moving, well_formed, direction_of}
use Rattle.spares_store.specs.Slips.{Undoes, slip_for, former_in, put_back, kept, former_of}
use Rattle.spares_store.specs.Stocks.{Bounded, outcome, settled, moved, stepped}
use Rattle.spares_store.specs.declared.movement.Movement.{Movement}
use Rattle.spares_store.specs.declared.refusal.Refusal.{Refusal}
use Rattle.std.proofs.lemmas.List.{set-set, set-get_or}
use Rattle.std.proofs.lemmas.Bool.Decides.{nat_tests}

-- a movement that was read is about one of the parts
pub part_small : (p : Payload) (m : Movement) → movement_of p ≡ Some m → m.part < 32
part_small p m e = go (well_formed p) refl (direction_of (get_or p.bytes 0 0)) e
  where
    go : (b : Bool) → well_formed p ≡ b → (d : Option _) → cond b (moving p d) None ≡ Some m → m.part < 32
    go true w None e = absurd (grind arith)
    go true w (Some d) e = grind (arith, nat_tests)
    go false w d e = absurd (grind arith)

settled_back :
    (s : List ℕ) (part : ℕ) (r : Result ℕ Refusal) → part < 32 → get_or s part 0 ≤ 60000
    → put_back (settled s part r) (former_in (slip_for (kept s part r))) ≡ s
settled_back s part (Ok n) h b =
    let e : former_in (slip_for (kept s part (Ok n))) ≡ kept s part (Ok n) = grind (arith, nat_tests) in
    ap (put_back (set s part n)) e ∙ set-set s part n (get_or s part 0) ∙ set-get_or s part 0
settled_back s part (Err refusal) h b = refl

moved_back :
    (s : List ℕ) (o : Option Movement) → ((m : Movement) → o ≡ Some m → m.part < 32) → Bounded s
    → put_back (moved s o) (former_in (slip_for (former_of s o))) ≡ s
moved_back s None h b = refl
moved_back s (Some m) h b = settled_back s m.part (outcome s (Some m)) (h m refl) (b m.part)

pub undone :
    (s stocks : List ℕ) (p : Payload) (slip : Slip) → stocks ≡ stepped s p → Undoes s p slip
    → put_back stocks (former_in slip) ≡ s
undone s stocks p slip e u =
    ap (λ xs. put_back xs (former_in slip)) e
    ∙ ap (λ x. put_back (stepped s p) (former_in x)) u.keeps
    ∙ moved_back s (movement_of p) (part_small p) u.bounded
