-- what each search adds
pub mod Found
pub mod Spots
