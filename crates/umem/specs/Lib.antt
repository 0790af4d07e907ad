pub mod Causes
pub mod Frames
pub mod Refusals
pub mod Refusing
