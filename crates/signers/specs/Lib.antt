pub mod Boxes
pub mod Rows
pub mod Signing
pub mod Tables
