-- The laws that the contract states.
use Rattle.codec.proofs.Laws.{first_back, record_back, arrival_back, request_back, inform_back}
use Rattle.codec.proofs.reading_writes_back.Goals as goal

pub returns : goal.returns
returns c = record { first = first_back; whole = record_back; arriving = arrival_back; asked = request_back; told = inform_back }
