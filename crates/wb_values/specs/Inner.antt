-- What only proofs and private functions speak of.
pub mod Begin
pub mod Layouts
pub mod Small
pub mod TreeCode
