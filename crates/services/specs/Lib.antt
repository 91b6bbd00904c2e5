pub mod Lone
pub mod Zeros
