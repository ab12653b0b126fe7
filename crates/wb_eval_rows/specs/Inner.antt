-- Words of private functions.
pub mod Lists
pub mod Nodes
