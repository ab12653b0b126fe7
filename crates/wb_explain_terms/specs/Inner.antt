-- refusals for another reason than the grammar, or at another place
pub mod Places
