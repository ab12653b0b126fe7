-- What loops and private functions keep, and how the table of terms is laid out.
pub mod Built
pub mod Events
pub mod Holding
pub mod KindsFit
pub mod Least
pub mod Pending
pub mod Plain
pub mod ShortNames
pub mod Smallest
pub mod TermEntries
pub mod TermLaws
pub mod TermReading
pub mod TermTable
pub mod Zipper
