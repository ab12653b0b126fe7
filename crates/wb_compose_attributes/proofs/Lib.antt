pub mod NumberedLemmas
pub mod UnitedLemmas
pub mod ProductionLemmas
pub mod PartLemmas
