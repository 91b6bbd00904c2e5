-- The rules of every book of constants.
use Rattle.std.proofs.Common.{◌≡◌, ℕ, ◌^◌, ◌<◌, ◌≤◌, Bool, true, false, cond, ◌⊎◌, take, drop, ℤ, nat_abs, Some, None, Option, Ok, Err, Result, sym, refl, ap, ◌∙◌, subst, inl, inr, ⊎_elim, arith}
use Rattle.constants.proofs.Counting.{held_written}
use Rattle.constants.specs.Books.{Book, Sound, written, held, outcome, settled, carried_out}
use Rattle.constants.specs.Commands.{command_of, marked, number_at, offset_bits, serial_in}
use Rattle.constants.specs.Ranges.{InRange}
use Rattle.constants.specs.Results.{number}
use Rattle.constants.specs.Rules.{BookRules}
use Rattle.constants.specs.declared.command.Command.{Command}
use Rattle.constants.specs.declared.command.Command.TheVariants.{Set, Clear}
use Rattle.constants.specs.declared.former.Former.{Former}
use Rattle.constants.specs.declared.refusal.Refusal.{Refusal}
use Rattle.constants.specs.declared.refusal.Refusal.TheVariants.{NoPlace, WrongPayload, Absent}
use Rattle.services.specs.Zeros.{all_zero}
use Rattle.std.proofs.lemmas.Bool.{cases_eq}
use Rattle.std.proofs.lemmas.Bool.Decides.{nat_tests}

unchanged_by : (f : Book) (c : Command) (r : Result Former Refusal) → (number r ≡ 0 → ⊥) → settled f c r ≡ f
unchanged_by f c (Ok former) h = absurd (h refl)
unchanged_by f c (Err refusal) h = refl

unchanged : (f : Book) (o : Option Command) → (number (outcome f o) ≡ 0 → ⊥) → carried_out f o ≡ f
unchanged f None h = refl
unchanged f (Some c) h = unchanged_by f c (outcome f (Some c)) h

set_by : (f : Book) (s : ℕ) (o : ℤ) (r : Result Former Refusal) → number r ≡ 0 → settled f (Set s o) r s ≡ Some o
set_by f s o (Ok former) h = grind (arith, nat_tests)
set_by f s o (Err NoPlace) h = absurd (omega arith)
set_by f s o (Err WrongPayload) h = absurd (omega arith)
set_by f s o (Err Absent) h = absurd (omega arith)

cleared_by : (f : Book) (s : ℕ) → carried_out f (Some (Clear s)) s ≡ None
cleared_by f s = grind (arith, nat_tests)

others_by : (f : Book) (c : Command) (r : Result Former Refusal) (q : ℕ) → (q ≡ serial_in c → ⊥) → settled f c r q ≡ f q
others_by f c (Ok former) q h = grind (arith, nat_tests)
others_by f c (Err refusal) q h = refl

too_far_by : (f : Book) (s : ℕ) (o : ℤ) → 20000 < nat_abs o → outcome f (Some (Set s o)) ≡ Err WrongPayload
too_far_by f s o h = grind (arith, nat_tests)

clear_with_by : (b : Bool) (serial bits : ℕ) (f : Book) → (bits ≡ 0 → ⊥) → outcome f (cond b (marked 2 serial bits) None) ≡ Err WrongPayload
clear_with_by true serial bits f h = grind (arith, nat_tests)
clear_with_by false serial bits f h = refl

has_place_by : (f : Book) (s : ℕ) (o o' : ℤ) → f s ≡ Some o' → number (outcome f (Some (Set s o))) ≡ 1 → ⊥
has_place_by f s o o' e h = grind (arith, nat_tests)

-- one line more or less in a sound book
sound_written :
    (f : Book) (s : ℕ) (line : Option ℤ) → s < 2 ^ 32 → Sound f → ((o : ℤ) → line ≡ Some o → InRange o)
    → held (written f s line) ≤ 64 → Sound (written f s line)
sound_written f s line fits sound r few = record { few = few; ranged = ranged; serials = serials }
  where
    at : (q : ℕ) → ((q ≡ s) × (written f s line q ≡ line)) ⊎ (written f s line q ≡ f q)
    at q = ⊎_elim (λ (e : q ≡ s). inl (e, grind (arith, nat_tests))) (λ (d : q ≡ s → ⊥). inr (grind (arith, nat_tests))) (cases_eq q s)

    ranged : (q : ℕ) (o : ℤ) → written f s line q ≡ Some o → InRange o
    ranged q o e =
        ⊎_elim (λ (h : (q ≡ s) × (written f s line q ≡ line)). r o (sym h.1 ∙ e))
        (λ (h : written f s line q ≡ f q). sound.ranged q o (sym h ∙ e)) (at q)

    serials : (q : ℕ) → 2 ^ 32 ≤ q → written f s line q ≡ None
    serials q h =
        ⊎_elim (λ (w : (q ≡ s) × (written f s line q ≡ line)). absurd (omega arith))
        (λ (w : written f s line q ≡ f q). w ∙ sound.serials q h) (at q)

few_set :
    (f : Book) (s : ℕ) (o : ℤ) (former : Former) → s < 2 ^ 32 → held f ≤ 64 → outcome f (Some (Set s o)) ≡ Ok former
    → InRange o × (held (written f s (Some o)) ≤ 64)
few_set f s o former fits few e =
    let counted = held_written f s (2 ^ 32) (Some o) fits in
    (grind (arith, nat_tests), grind (arith, nat_tests))

few_clear : (f : Book) (s : ℕ) → s < 2 ^ 32 → held f ≤ 64 → held (written f s None) ≤ 64
few_clear f s fits few = let counted = held_written f s (2 ^ 32) None fits in omega arith

sound_by :
    (f : Book) (c : Command) (r : Result Former Refusal) → serial_in c < 2 ^ 32 → Sound f → outcome f (Some c) ≡ r
    → Sound (settled f c r)
sound_by f c (Err refusal) fits sound e = sound
sound_by f (Set s o) (Ok former) fits sound e =
    let h = few_set f s o former fits sound.few e in
    sound_written f s (Some o) fits sound (λ o' (same : Some o ≡ Some o'). let eq : o ≡ o' = cc in subst InRange eq h.0) h.1
sound_by f (Clear s) (Ok former) fits sound e =
    sound_written f s None fits sound (λ o' (same : None ≡ Some o'). absurd (grind arith)) (few_clear f s fits sound.few)

pub book_rules : BookRules
book_rules =
    record {
      unchanged = λ f p h. unchanged f (command_of p) h;
      set_there = λ f p s o e h.
          rw e (set_by f s o (outcome f (Some (Set s o))) (rw e at h));
      cleared_there = λ f p s e. rw e (cleared_by f s);
      others = λ f p c q e h. rw e (others_by f c (outcome f (Some c)) q h);
      too_far = λ f p s o e h. rw e (ap number (too_far_by f s o h));
      clear_with_offset = λ f p m h.
          rw m (ap number (clear_with_by (all_zero (take 7 (drop 5 p.bytes))) (number_at p.bytes 1) (offset_bits p) f h));
      held_has_place = λ f p s o o' e there h. has_place_by f s o o' there (rw e at h);
      stays_sound = λ f c fits sound. sound_by f c (outcome f (Some c)) fits sound refl;
    }
