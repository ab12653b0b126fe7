-- the order of a certificate: kernels and entries as they are first reached
pub mod Order
-- what loops keep, and words of private functions
pub mod Inner
