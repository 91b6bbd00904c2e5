-- The laws of the wire format, by the names that other crates import. Assumes nothing.
pub use Rattle.codec.proofs.Wholes.{first_back, record_back, arrival_back, request_back, inform_back, first_reads, record_reads, arrival_reads, request_reads, inform_reads}
pub use Rattle.codec.proofs.Sayings.{says_one, covered_first, covered_length}
pub use Rattle.codec.proofs.Certificates.{certificate_length}
pub use Rattle.codec.proofs.Figures.{view_most, view_largest}
