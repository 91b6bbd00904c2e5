use Rattle.constants.specs.Books.{Carried}
use Rattle.constants.specs.declared.command.Command.{Command}
use Rattle.constants.specs.declared.command.Command.TheVariants.{Set}
use Rattle.constants_book.proofs.book.ConstantsBook.carry_out.Goals as goal
use Rattle.constants_book.specs.Places.{meaning}
use Rattle.std.proofs.lemmas.Int.{to_z-of_z}
use Rattle.std.proofs.Common.{Some, sym, ap, ◌∙◌, subst, w32, SFits, rules}

pub returns-in-Set : goal.returns-in-Set
returns-in-Set c =
    let fits : SFits w32 c.in-Set.offset = search rules in
    let same = ap (Set c.in-Set.serial) (to_z-of_z w32 c.in-Set.offset fits) ∙ sym c.in-Set.is in
    subst
    (λ (command : Command).
    Carried (meaning c.args.self.now.places) (Some command) c.set.result
    (meaning c.set.new.self.places))
    same c.set.ensures
