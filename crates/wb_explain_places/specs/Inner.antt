-- where a line begins, and where it ends
pub mod Ends
