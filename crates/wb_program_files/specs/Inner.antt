-- Words of private functions: the prefix of a file that is read so far; a host whose attributes are well defined, and what is answered of a
-- file that is no host; what is made of the files of extensions in their order; what is read of a file with its certificate, and what is
-- made of both; what is shown of a file.
pub mod Prefixes
pub mod Hosts
pub mod Extensions
pub mod Pairs
pub mod Shown
