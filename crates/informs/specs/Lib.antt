pub mod Alike
pub mod Agreed
pub mod ProofsOfExecution
pub mod Sameness
