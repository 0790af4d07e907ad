pub mod Wrap
pub mod Spans
pub mod Sizes
pub mod Marks
pub mod Sides
pub mod Rings
pub mod Views
pub mod Runs
