-- Parts written one after another are the whole written at once. Assumes nothing.
use Rattle.std.proofs.Common.{◌≡◌, ℕ, ◌+◌, ◌-◌, ◌<◌, ◌≤◌, cond, leb, List, [], ◌++◌, length, take, drop, Ok, Err, Result, sym, refl, ap, ◌∙◌, subst, append_assoc, arith, length-append}
use Rattle.std.proofs.lemmas.List.{take-take, take-append-le, length-take-le, append-nil, drop_at}
use Rattle.std.proofs.lemmas.Slice.{between_is}
use Rattle.std.proofs.lemmas.Bool.Decides.{nat_tests}
use Rattle.quorum.specs.declared.refusal.Fault.{Fault}
use Rattle.quorum.specs.declared.refusal.Fault.TheVariants.{NoRoom}
use Rattle.outbox.specs.Trays.{Written, Sent, room}

-- an answer that gives a place had the room
pub had_room : (size at many end : ℕ) → Ok end ≡ room size at many → (end ≡ at + many) × (at + many ≤ size)
had_room size at many end e = (grind (arith, nat_tests), grind (arith, nat_tests))

-- one that gives none had not
pub no_room : (size at many : ℕ) (f : Fault) → Err f ≡ room size at many → (f ≡ NoRoom) × (size < at + many)
no_room size at many f e = (grind (arith, nat_tests), grind (arith, nat_tests))

-- nothing written
pub part_none : (m : List ℕ) (at : ℕ) → at ≤ length m → Written m m at [] (Ok at)
part_none m at h = record {
  answered = grind (arith, nat_tests);
  long = refl;
  below = refl;
  added = λ _. rw (let e : at + 0 ≡ at = omega arith in e) (sym (append-nil (take at m)));
}

-- a part, and what follows it
pub part_then : {m m₁ m₂ : List ℕ} {at b : ℕ} {xs ys : List ℕ} {r : Result ℕ Fault} → Written m m₁ at xs (Ok b) → Written m₁ m₂ b ys r → Written m m₂ at (xs ++ ys) r
part_then {m} {m₁} {m₂} {at} {b} {xs} {ys} {r} v w =
    let had = had_room (length m) at (length xs) b v.answered in
    let b-is : b ≡ at + length xs = had.0 in
    let fits : at + length xs ≤ length m = had.1 in
    let both : length (xs ++ ys) ≡ length xs + length ys = length-append xs ys in
    let end_is : b + length ys ≡ at + length (xs ++ ys) = omega arith in
    let first : take b m₁ ≡ take at m ++ xs = rw b-is (v.added fits) in
    let at_long : length (take at m) ≡ at = length-take-le at m (omega arith) in
    let kept : take at m₂ ≡ take at m =
    sym (take-take at b m₂ (omega arith))
    ∙ ap (take at) (w.below ∙ first)
    ∙ take-append-le at (take at m) xs (omega arith)
    ∙ take-take at at m (omega arith) in
    record {
      answered = w.answered ∙ ap (λ k. room k b (length ys)) v.long ∙ ap (λ k. cond (leb k (length m)) (Ok k) (Err NoRoom)) end_is;
      long = w.long ∙ v.long;
      below = kept;
      added = λ h.
          subst (λ k. take k m₂ ≡ take at m ++ (xs ++ ys)) end_is
          (w.added (let l = v.long in omega arith) ∙ ap (λ l. l ++ ys) first ∙ append_assoc (take at m) xs ys);
    }

-- a part without room, whatever should follow
pub part_stop : {m m₁ : List ℕ} {at : ℕ} {xs : List ℕ} {f : Fault} (ys : List ℕ) → Written m m₁ at xs (Err f) → Written m m₁ at (xs ++ ys) (Err f)
part_stop {m} {m₁} {at} {xs} {f} ys v =
    let none = no_room (length m) at (length xs) f v.answered in
    let both : length (xs ++ ys) ≡ length xs + length ys = length-append xs ys in
    let over : length m < at + length (xs ++ ys) = let o = none.1 in omega arith in
    let is : f ≡ NoRoom = none.0 in
    record {
      answered = grind (arith, nat_tests);
      long = v.long;
      below = v.below;
      added = λ h. absurd (omega arith);
    }

-- a record written whole
pub part_sent : {m m₁ : List ℕ} {used end : ℕ} {xs : List ℕ} → Written m m₁ used xs (Ok end) → Sent m m₁ used end xs (Ok tt)
part_sent {m} {m₁} {used} {end} {xs} v =
    let had = had_room (length m) used (length xs) end v.answered in
    let fits = had.1 in
    let is = had.0 in
    record { answered = grind (arith, nat_tests); filled = grind (arith, nat_tests); below = v.below; added = v.added }

-- a record without room
pub part_unsent : {m m₁ : List ℕ} {used : ℕ} {xs : List ℕ} {f : Fault} → Written m m₁ used xs (Err f) → Sent m m₁ used used xs (Err f)
part_unsent {m} {m₁} {used} {xs} {f} v =
    let none = no_room (length m) used (length xs) f v.answered in
    let is = none.0 in
    let over = none.1 in
    record { answered = grind (arith, nat_tests); filled = grind (arith, nat_tests); below = v.below; added = v.added }

-- what was just written is what the memory shows there
pub part_seen : {m m₁ : List ℕ} {at b : ℕ} {xs : List ℕ} → Written m m₁ at xs (Ok b) → take (b - at) (drop at m₁) ≡ xs
part_seen {m} {m₁} {at} {b} {xs} v =
    let had = had_room (length m) at (length xs) b v.answered in
    let fits : at + length xs ≤ length m = had.1 in
    let at_long : length (take at m) ≡ at = length-take-le at m (omega arith) in
    between_is m₁ at b
    ∙ ap (λ k. drop at (take k m₁)) had.0
    ∙ ap (drop at) (v.added fits)
    ∙ drop_at (take at m) xs at at_long
