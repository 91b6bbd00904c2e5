pub mod Counting
pub mod Undoing
mod BookRules
