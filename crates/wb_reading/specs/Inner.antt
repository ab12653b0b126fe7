-- what a walk over a text finds and keeps
pub mod Walks
