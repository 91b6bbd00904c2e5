pub mod Searches
pub mod Tables
pub mod Carrying
