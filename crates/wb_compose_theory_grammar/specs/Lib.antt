-- numbers of a host, of its extensions one after another, and of what comes after
pub mod Places
-- the union of a host's grammar and its extensions
pub mod Unions
-- a host and extensions as they were tested, each with the host alone
pub mod Pieces
-- who owns what is where
pub mod Owners
-- their world
pub mod UnitedWorlds
-- stretches of the numbers of extensions
pub mod Cuts
-- numbers of the grammars among those of the union with holes
pub mod Numberings
-- a host and extensions that are certified
pub mod Certificates
-- what the laws say
pub mod Laws
-- a small host and a small extension
pub mod Example
-- a larger one, in which an extension has a new kernel and a marker as a lookahead
pub mod ChainExample
-- extensions given by their grammar and their markers
pub mod Bridges
