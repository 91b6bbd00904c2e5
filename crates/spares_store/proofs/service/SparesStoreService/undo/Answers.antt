use Rattle.spares_store.proofs.Undoing.{undone}
use Rattle.spares_store.proofs.service.SparesStoreService.undo.Goals as goal
use Rattle.spares_store.specs.Slips.{put_back}
use Rattle.std.proofs.Common.{ap, ◌∙◌}

pub returns-in-Ok-clause-exact : goal.returns-in-Ok-clause-exact
returns-in-Ok-clause-exact c =
    let stocks = c.args.self.now.stocks in
    λ s e u. ap (put_back stocks) c.in-Ok.ensures.0 ∙ undone s stocks c.args.payload.now c.args.slip.now e u

pub returns-in_default-clause-exact : goal.returns-in_default-clause-exact
returns-in_default-clause-exact c =
    let stocks = c.args.self.now.stocks in
    λ s e u. ap (put_back stocks) c.in_default.ensures.0 ∙ undone s stocks c.args.payload.now c.args.slip.now e u
