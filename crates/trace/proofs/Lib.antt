pub mod Chains
pub mod Held
pub mod Keeps
pub mod Rows
pub mod Said
pub mod Steps
pub mod Trips
