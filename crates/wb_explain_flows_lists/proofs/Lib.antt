pub mod TextLemmas
mod MissingLemmas
mod LackLemmas
mod HeldLemmas
mod AllLemmas
