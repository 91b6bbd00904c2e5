use Rattle.spares_store.proofs.StoreRules.{store_rules}
use Rattle.spares_store.proofs.rules.store_rules.Goals as goal

pub returns : goal.returns
returns c = store_rules
