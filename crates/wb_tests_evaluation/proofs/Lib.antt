-- what may be asked of the root of a term
mod AskedLemmas
-- what a certified host says of its attributes
mod CertifiedLemmas
