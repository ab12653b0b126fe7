-- which kernels of a union hold items of an extension, in a world of names
pub mod Worlds
-- the same of a composition, in the numbers of its grammars
pub mod Numbers
-- the same of a host and its extensions
pub mod Extensions
