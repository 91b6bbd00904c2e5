-- Undoing gives the book as it was: a fact about what books mean, whatever holds the entries.
use Rattle.std.proofs.Common.{◌≡◌, ℕ, suc, ◌^◌, ◌<◌, ◌≤◌, true, ◌⊎◌, ℤ, pos, negsuc, is_some, Some, None, Option, Ok, Err, Result, sym, refl, ap, subst, ◌∙◌, inl, inr, ⊎_elim, arith}
use Rattle.constants.proofs.Counting.{held_written, one_if}
use Rattle.constants.specs.Books.{Book, Sound, Undoes, written, held, outcome, settled, carried_out, stepped, was, former_of, restored}
use Rattle.constants.specs.Commands.{command_of, serial_in}
use Rattle.constants.specs.Ranges.{InRange}
use Rattle.constants.specs.Slips.{slip_for, former_in, inverse}
use Rattle.constants.specs.declared.command.Command.{Command}
use Rattle.constants.specs.declared.command.Command.TheVariants.{Set, Clear}
use Rattle.constants.specs.declared.former.Former.{Former}
use Rattle.constants.specs.declared.refusal.Refusal.{Refusal}
use Rattle.payload.specs.declared.payload.Payload.{Payload}
use Rattle.services.specs.declared.slip.Slip.{Slip}
use Rattle.std.specs.Result.{result_ok}
use Rattle.std.proofs.lemmas.Bool.{cases_lt, le-leb}
use Rattle.std.proofs.lemmas.Bool.Decides.{nat_tests}
use mathlib.Core.Path.{fun_ext}

-- writing a serial's old line again
pub line_back : (f : Book) (s : ℕ) (line old : Option ℤ) → f s ≡ old → written (written f s line) s old ≡ f
line_back f s line old e = fun_ext (λ q. go q)
  where
    go : (q : ℕ) → written (written f s line) s old q ≡ f q
    go q = grind (arith, nat_tests)

written_same : (f : Book) (s : ℕ) (line : Option ℤ) → written f s line s ≡ line
written_same f s line = grind (arith, nat_tests)

-- a serial with an entry has four bytes
serial_fits : (f : Book) (s : ℕ) (o : ℤ) → Sound f → f s ≡ Some o → s < 2 ^ 32
serial_fits f s o sound e =
    ⊎_elim (λ (h : s < 2 ^ 32). h) (λ (h : 2 ^ 32 ≤ s). let none = sound.serials s h in absurd (grind arith)) (cases_lt s (2 ^ 32))

-- a set that is in range and finds its place is done
set_done :
    (g : Book) (s : ℕ) (o : ℤ) → InRange o → (is_some (g s) ≡ true) ⊎ (held g < 64)
    → carried_out g (Some (Set s o)) ≡ written g s (Some o)
set_done g s o r place = ap (settled g (Set s o)) done
  where
    done : outcome g (Some (Set s o)) ≡ Ok (was (g s))
    done = ⊎_elim (λ (h : is_some (g s) ≡ true). grind (arith, nat_tests)) (λ (h : held g < 64). grind (arith, nat_tests)) place

clear_done : (g : Book) (s : ℕ) → is_some (g s) ≡ true → carried_out g (Some (Clear s)) ≡ written g s None
clear_done g s h = let done : outcome g (Some (Clear s)) ≡ Ok (was (g s)) = grind arith in ap (settled g (Clear s)) done

-- after a set that was done, what the serial had comes back
set_back :
    (f : Book) (s : ℕ) (o : ℤ) (old : Option ℤ) → Sound f → f s ≡ old
    → carried_out (written f s (Some o)) (Some (inverse s (was old))) ≡ f
set_back f s o None sound e =
    let there : is_some (written f s (Some o) s) ≡ true = ap is_some (written_same f s (Some o)) in
    clear_done (written f s (Some o)) s there ∙ line_back f s (Some o) None e
set_back f s o (Some old) sound e =
    let there : is_some (written f s (Some o) s) ≡ true = ap is_some (written_same f s (Some o)) in
    set_done (written f s (Some o)) s old (sound.ranged s old e) (inl there) ∙ line_back f s (Some o) (Some old) e

-- after a clearing that was done: one entry fewer, so there is a place
clear_back :
    (f : Book) (s : ℕ) (old : Option ℤ) → Sound f → f s ≡ old → is_some old ≡ true
    → carried_out (written f s None) (Some (inverse s (was old))) ≡ f
clear_back f s None sound e h = absurd (grind arith)
clear_back f s (Some old) sound e h =
    let counted = held_written f s (2 ^ 32) None (serial_fits f s old sound e) in
    let few = sound.few in
    let one : one_if (f s) ≡ 1 = ap one_if e in
    let room : held (written f s None) < 64 = omega arith in
    set_done (written f s None) s old (sound.ranged s old e) (inr room) ∙ line_back f s None (Some old) e

-- what is kept of a command that was done
kept : (f : Book) (c : Command) (former : Former) → outcome f (Some c) ≡ Ok former → was (f (serial_in c)) ≡ former
kept f (Set s o) former e = grind (arith, nat_tests)
kept f (Clear s) former e = grind (arith, nat_tests)

-- the inverse of a command that was carried out
inverted :
    (f : Book) (c : Command) (r : Result Former Refusal) → Sound f → outcome f (Some c) ≡ r
    → restored (settled f c r) (Some c) (result_ok r) ≡ f
inverted f c (Err refusal) sound e = refl
inverted f (Set s o) (Ok former) sound e = rw (sym (kept f (Set s o) former e)) (set_back f s o (f s) sound refl)
inverted f (Clear s) (Ok former) sound e =
    let there : is_some (f s) ≡ true = grind arith in
    rw (sym (kept f (Clear s) former e)) (clear_back f s (f s) sound refl there)

restored_back : (f : Book) (c : Option Command) → Sound f → restored (carried_out f c) c (former_of f c) ≡ f
restored_back f None sound = refl
restored_back f (Some c) sound = inverted f c (outcome f (Some c)) sound refl

-- a slip is read back as it was written
read_back : (line : Option ℤ) → ((o : ℤ) → line ≡ Some o → InRange o) → former_in (slip_for (Some (was line))) ≡ Some (was line)
read_back None r = refl
read_back (Some (pos n)) r = let t = le-leb n 20000 (r (pos n) refl) in rw t
read_back (Some (negsuc n)) r = let t = le-leb (suc n) 20000 (r (negsuc n) refl) in rw t

kept_back :
    (f : Book) (c : Command) (r : Result Former Refusal) → Sound f → outcome f (Some c) ≡ r
    → former_in (slip_for (result_ok r)) ≡ result_ok r
kept_back f c (Err refusal) sound e = refl
kept_back f c (Ok former) sound e =
    subst (λ x. former_in (slip_for (Some x)) ≡ Some x) (kept f c former e)
    (read_back (f (serial_in c)) (sound.ranged (serial_in c)))

former_back : (f : Book) (c : Option Command) → Sound f → former_in (slip_for (former_of f c)) ≡ former_of f c
former_back f None sound = refl
former_back f (Some c) sound = kept_back f c (outcome f (Some c)) sound refl

-- from the book that the step by p left, with a slip that undoes it
pub undone :
    (f g : Book) (p : Payload) (slip : Slip) → g ≡ stepped f p → Undoes f p slip
    → restored g (command_of p) (former_in slip) ≡ f
undone f g p slip e u =
    ap (λ h. restored h (command_of p) (former_in slip)) e
    ∙ ap (λ x. restored (stepped f p) (command_of p) (former_in x)) u.keeps
    ∙ ap (restored (stepped f p) (command_of p)) (former_back f (command_of p) u.sound)
    ∙ restored_back f (command_of p) u.sound
