use Rattle.constants_book.proofs.Tables.{sound}
use Rattle.constants_book.proofs.service.ConstantsBookService.apply.Goals as goal
use Rattle.std.proofs.Common.{rules}

pub returns-in-Ok-clause-slips : goal.returns-in-Ok-clause-slips
returns-in-Ok-clause-slips c =
    let b = c.args.self.now in
    record { sound = sound b.places b.sized b.distinct; keeps = search rules }

pub returns-in-Err-clause-slips : goal.returns-in-Err-clause-slips
returns-in-Err-clause-slips c =
    let b = c.args.self.now in
    record { sound = sound b.places b.sized b.distinct; keeps = search rules }
