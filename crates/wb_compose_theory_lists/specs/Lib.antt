-- lists put together, and where their elements are
pub mod Joined
-- what an extension adds to a host
pub mod Additions
-- the numbers of a host and of its extensions in the union
pub mod Numbers
-- the united attribution
pub mod United
-- the grammar of the union
pub mod Grammars
-- what the laws say
pub mod Laws
-- the rows of a resolved host
pub mod Hosts
-- what an extension adds to them
pub mod Extended
