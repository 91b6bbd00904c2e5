use Rattle.constants.proofs.BookRules.{book_rules}
use Rattle.constants.proofs.rules.book_rules.Goals as goal

pub returns : goal.returns
returns c = book_rules
