-- The laws that the contract states.
use Rattle.codec.proofs.Laws.{first_reads, record_reads, arrival_reads, request_reads, inform_reads}
use Rattle.codec.proofs.writing_reads_back.Goals as goal

pub returns : goal.returns
returns c = record { first = first_reads; whole = record_reads; arriving = arrival_reads; asked = request_reads; told = inform_reads }
