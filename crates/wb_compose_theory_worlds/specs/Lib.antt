-- the names of a host and its extensions, and what each of them declares and writes
pub mod Worlds
-- who may declare and write what
pub mod Named
-- when the attributes of a part of a world are well defined
pub mod Parts
-- the world of an attribution
pub mod Attributions
-- what the laws say
pub mod Laws
