pub mod Figures
pub mod Limits
pub mod Refusals
pub mod Rings
pub mod Sets
