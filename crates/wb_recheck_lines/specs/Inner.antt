-- kernels and entries up to a place
pub mod Walks
