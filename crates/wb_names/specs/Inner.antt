-- Words of private functions.
pub mod Now
pub mod Productions
pub mod Wrong
pub mod Rest
pub mod Value
pub mod Unwritten
pub mod Joined
pub mod Made
pub mod Bodies
pub mod Rows
