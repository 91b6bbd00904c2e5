pub mod Siphash
