-- what is said of a stop
pub mod Said
pub mod Inner
