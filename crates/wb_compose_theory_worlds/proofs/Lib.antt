pub mod SightLemmas
pub mod StayLemmas
pub mod WalkLemmas
pub mod UnionLemmas
pub mod FoundLemmas
pub mod AttributionLemmas
pub mod NamedLemmas
pub mod PartLemmas
