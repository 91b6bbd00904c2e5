pub mod Trays
pub mod Pens
