-- chains while they are followed
pub mod Followed
-- codes that are looked up and kept
pub mod Coded
-- what states keep while reductions are made in place
pub mod Carried
