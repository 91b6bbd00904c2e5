use Rattle.std.proofs.Common.{◌≡◌, true, Some, sym, ap, ◌∙◌, rules}
use Rattle.std.specs.Option.{option_copied}
use Rattle.quorum.specs.Rings.{stations_of}
use Rattle.informs.specs.Agreed.{placed}
use Rattle.counter.proofs.Facts.{placed_open}
use Rattle.counter.proofs.state.Counter.alike.Goals as goal

pub map_or-requires : goal.map_or-requires
map_or-requires c =
    let held : (x : _) → c.as_ref-open.result ≡ Some x → placed 10 x.now.heard ≡ true = λ x e. placed_open (stations_of c.self.inside.ring) c.self.inside.current x.now c.self.inside.ring.few c.self.invariant (sym c.as_ref-open.ensures.value ∙ ap option_copied e) in
    search (rules, held)
