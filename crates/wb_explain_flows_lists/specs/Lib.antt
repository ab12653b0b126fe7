-- how things are named
pub mod Names
-- whose file is meant
pub mod Files
-- texts, one for each of a list
pub mod Lists
-- what is said of equations that are missing
pub mod Missing
-- what is said of attributes that aren't handed down
pub mod Handed
-- what is said of flow types that lack something
pub mod Held
pub mod Inner
