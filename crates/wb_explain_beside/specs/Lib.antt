-- what is said of an extension that has something new after a part of the host
pub mod Said
pub mod Inner
