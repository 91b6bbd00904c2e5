use Rattle.spares_store.proofs.Bounds.{bounded_empty}
use Rattle.spares_store.proofs.store.SparesStore.new.Goals as goal

pub invariant_of-result : goal.invariant_of-result
invariant_of-result c = record { bounded = bounded_empty 32 }
