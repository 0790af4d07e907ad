pub mod Files
pub mod Meanings
pub mod Pairs
pub mod Reading
pub mod Recordings
pub mod Writing
