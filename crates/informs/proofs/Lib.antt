mod Rows
mod Pushed
mod Most
pub mod Executions
