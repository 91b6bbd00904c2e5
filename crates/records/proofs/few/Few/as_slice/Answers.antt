-- A list that is longer than what is taken of it is cut; any other is taken whole.
use Rattle.std.proofs.Common.{rules}
use Rattle.std.proofs.lemmas.List.{take_all}
use Rattle.records.proofs.few.Few.as_slice.Goals as goal

pub returns-else-self-all : goal.returns-else-self-all
returns-else-self-all g c = search (rules, take_all)
