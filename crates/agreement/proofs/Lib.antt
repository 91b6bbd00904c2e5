-- Lemmas of this crate, for it and for the crates above.
pub mod Sound
pub mod Kept
pub mod Agreement
pub mod OneList
pub mod Growth
pub mod Samples
