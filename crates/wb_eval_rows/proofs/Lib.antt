pub mod RowsLemmas
mod DigitLemmas
mod NodeLemmas
mod SparseLemmas
