-- derivation trees as they are written, and their terminals
pub mod Written
-- two readings of one text, or of texts that begin alike
pub mod Readings
pub mod Inner
