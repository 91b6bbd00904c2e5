use Rattle.std.proofs.Common.{◌≡◌, false, is_some, rules}
use Rattle.signers.specs.Rows.{found}
use Rattle.signers.proofs.Rows.{found_put}
use Rattle.signers.proofs.row.Row.add.Goals as goal

pub returns-clause-secrets : goal.returns-clause-secrets
returns-clause-secrets g c = λ m.
    let k : is_some (found c.args.self.now c.args.entry.number) ≡ false = cc in
    let f = found_put c.args.self.now c.args.entry m c.in-Some.place c.in-Some.ensures.answer k in
    search rules
