-- What loops keep, and words of private functions.
pub mod KernelRows
pub mod Parts
pub mod Rests
pub mod Rows
pub mod Spreading
pub mod Valid
pub mod Waiting
