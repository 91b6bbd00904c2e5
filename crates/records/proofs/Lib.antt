pub mod Several
pub mod Wholes
pub mod Puts
pub mod Covered
