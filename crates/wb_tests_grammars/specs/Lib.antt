-- kernels that are listed one after another, with their moves
pub mod Listed
