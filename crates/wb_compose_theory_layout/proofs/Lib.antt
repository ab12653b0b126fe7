pub mod HolderLemmas
pub mod HolderNumbers
pub mod TwinLemmas
pub mod HeldLemmas
