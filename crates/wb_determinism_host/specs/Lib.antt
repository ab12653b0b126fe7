-- the grammar of a resolved specification
pub mod HostGrammar
-- what is scanned of a resolved specification
pub mod Lexicons
-- a host that is deterministic for all extensions that may come
pub mod Hosts
-- a host that passes every test before the conflict, with what is found of it
pub mod Judged
-- why a host isn't, each reason with a true example where no earlier one holds
pub mod Refusals
-- what only proofs need
pub mod Inner
