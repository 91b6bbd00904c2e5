pub mod Commands
pub mod Results
pub mod Ranges
pub mod Slips
pub mod Books
pub mod Rules
