-- nodes by number, and the paths that they are
pub mod Sites
-- values by site and attribute
pub mod Slots
-- what is known of them
pub mod Memos
-- words of private functions
pub mod Inner
