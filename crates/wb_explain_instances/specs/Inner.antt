-- one line more
pub mod Lines
