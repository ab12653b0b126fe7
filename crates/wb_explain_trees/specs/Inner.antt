-- what is shown of a text that is read
pub mod Sessions
