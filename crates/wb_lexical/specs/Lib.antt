-- two terminals of one set that match one text with no preference between them
pub mod Clash
-- what only proofs need
pub mod Inner
