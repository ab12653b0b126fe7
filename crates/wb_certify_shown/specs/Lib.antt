-- the names that reports show for numbers
pub mod Names
-- what a report shows for a refusal by number
pub mod Shows
-- what it shows for a refusal of an extension
pub mod Extensions
