-- What only proofs speak of.
pub mod SameGrammars
