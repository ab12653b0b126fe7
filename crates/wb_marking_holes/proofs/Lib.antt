mod HoleLemmas
pub mod LiftLemmas
mod ShiftLemmas
pub mod UpLemmas
