pub mod Tried
pub mod Admitted
