pub mod Backs
pub mod Cursors
pub mod Seals
