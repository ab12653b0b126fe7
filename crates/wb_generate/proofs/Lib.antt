mod CountLemmas
mod GroupLemmas
mod LoweringLemmas
mod ChoiceLemmas
mod RoomLemmas
mod LoopLemmas
mod MakeLemmas
mod FormLemmas
mod ReplaceLemmas
mod RunLemmas
mod BoundLemmas
pub mod OneLemmas
mod TextLemmas
mod LeastLemmas
pub mod ExistLemmas
