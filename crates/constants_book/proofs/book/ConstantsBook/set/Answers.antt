use Rattle.constants_book.proofs.Carrying.{apart_set, set_done, set_refused}
use Rattle.constants_book.proofs.book.ConstantsBook.set.Goals as goal
use Rattle.std.proofs.lemmas.List.{length-set}
use Rattle.std.proofs.lemmas.Int.{to_z-of_z}
use Rattle.constants.specs.Books.{Carried}
use Rattle.constants.specs.declared.command.Command.TheVariants.{Set}
use Rattle.constants.specs.declared.refusal.Refusal.TheVariants.{NoPlace}
use Rattle.constants_book.specs.Places.{meaning}
use Rattle.std.proofs.Common.{◌≡◌, Some, Err, sym, subst, ◌∙◌, w32, rules}

pub returns-in_err-place : goal.returns-in_err-place
returns-in_err-place c =
    let b = c.args.self.now in
    let made = rw c.in_ok-entry.ensures.ok_part at c.new.ensures in
    let refusal : c.from_residual-in_err-place.result ≡ Err NoPlace = search rules in
    subst (λ r. Carried (meaning b.places) (Some (Set c.args.serial c.args.offset)) r (meaning b.places)) (sym refusal)
    (set_refused b.places c.args.serial c.args.offset c.in_ok-entry.entry b.sized b.distinct
    (made.0, made.1 ∙ to_z-of_z w32 c.args.offset c.ranges.offset)
    (rw c.in_err-place.ensures.ok_part at c.place_for.ensures))

pub invariant_of-self : goal.invariant_of-self
invariant_of-self c =
    let b = c.args.self.now in
    let e = c.in_ok-entry.entry in
    let i = c.in_ok-place.place in
    let made = rw c.in_ok-entry.ensures.ok_part at c.new.ensures in
    record {
      distinct = apart_set b.places i _ e b.distinct made.0 (rw c.in_ok-place.ensures.ok_part at c.place_for.ensures);
      sized = length-set b.places i (Some e) ∙ b.sized;
    }

pub returns : goal.returns
returns c =
    let b = c.args.self.now in
    let made = rw c.in_ok-entry.ensures.ok_part at c.new.ensures in
    set_done b.places c.in_ok-place.place c.args.serial c.args.offset c.in_ok-entry.entry _ c.into.result b.sized b.distinct
    (made.0, made.1 ∙ to_z-of_z w32 c.args.offset c.ranges.offset)
    (rw c.in_ok-place.ensures.ok_part at c.place_for.ensures) c.into.ensures
