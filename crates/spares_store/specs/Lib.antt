pub mod Movements
pub mod Outcomes
pub mod Stocks
pub mod Slips
pub mod Rules
