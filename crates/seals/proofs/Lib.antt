mod Turns
mod Short
mod Heard
