-- the numbers of a host in those of the host with an extension
pub mod Numbers
-- what is given of both
pub mod Given
-- the new kernels
pub mod NewKernels
-- what loops keep, and words of private functions
pub mod Inner
