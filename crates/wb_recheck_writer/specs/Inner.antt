-- lines as they are written
pub mod Lines
-- entries as they are written
pub mod Reached
