pub mod Settled
pub mod Traces
