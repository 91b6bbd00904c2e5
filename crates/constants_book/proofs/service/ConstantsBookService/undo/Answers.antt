use Rattle.constants.proofs.Undoing.{undone}
use Rattle.constants.specs.Books.{restored}
use Rattle.constants.specs.Commands.{command_of}
use Rattle.constants.specs.Slips.{former_in}
use Rattle.constants_book.proofs.service.ConstantsBookService.undo.Goals as goal
use Rattle.constants_book.specs.Places.{meaning}
use Rattle.std.proofs.Common.{rules, ◌≡◌, ◌∙◌}

pub returns-in-Ok-Ok-clause-exact : goal.returns-in-Ok-Ok-clause-exact
returns-in-Ok-Ok-clause-exact c =
    let f = meaning c.args.self.now.places in
    let p = c.args.payload.now in
    let slip = c.args.slip.now in
    let restores : meaning c.carry_out.new.self.places ≡ restored f (command_of p) (former_in slip) = search rules in
    λ s e u. restores ∙ undone s f p slip e u
