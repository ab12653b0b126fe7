pub mod AppendLemmas
pub mod NodeLemmas
pub mod Nodes
pub mod OneExpression
pub mod PartLemmas
pub mod PlaceLemmas
