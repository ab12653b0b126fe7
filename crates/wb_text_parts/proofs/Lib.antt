pub mod FaultLemmas
pub mod NumberLemmas
pub mod StopLemmas
mod WordLemmas
