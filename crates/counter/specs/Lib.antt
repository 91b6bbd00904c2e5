pub mod Standing
pub mod Making
pub mod Opening
pub mod Hearing
pub mod Closing
