-- lines that name terminals
pub mod Entries
