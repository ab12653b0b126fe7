-- what is said of what was found
pub mod Found
