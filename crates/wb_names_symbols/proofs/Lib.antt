mod ApartLemmas
mod AttributesThere
mod DeclaredThere
mod ForwardsFound
mod InGrammar
mod NamedLemmas
mod NamesFlat
mod OnceNames
mod ProductionNames
mod RowsNamed
pub mod Gathered
pub mod JoinedLemmas
pub mod WritersLemmas
pub mod WrittenLemmas
