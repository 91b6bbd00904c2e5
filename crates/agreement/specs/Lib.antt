-- What the contracts of this crate cite: the protocol as relations, its runs, and what is promised of them.
pub mod Statements
pub mod States
pub mod Certificates
pub mod Steps
pub mod Runs
pub mod Promises
pub mod Samples
