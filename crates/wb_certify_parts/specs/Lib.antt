-- what is made of the grammar of a certified extension with its host
pub mod Kept
