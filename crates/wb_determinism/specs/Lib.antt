-- the numbers of a host in the host with an extension
pub mod Numbers
-- kernels that are a host's, that are an extension's, and that are neither
pub mod Regions
-- what terminals of the extended host stand for
pub mod Images
-- the extension adds no lookahead at a host's kernel
pub mod LookaheadRule
-- the envelope rule, and where it fails
pub mod EnvelopeRule
-- what is considered with the envelope, and clashes there
pub mod EnvelopeClash
-- an extension that is deterministic beside its host, and what is kept of it
pub mod Extensions
-- why an extension isn't, each reason with a true example where no earlier one holds
pub mod Refusals
-- terminals after dots, and lookaheads of complete items
pub mod Valid
-- conflicts of items with sets of lookaheads
pub mod Conflicts
-- what only proofs need
pub mod Inner
