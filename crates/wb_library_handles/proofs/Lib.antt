-- the machine values of a loose box, whose drafts are those of the kit's `once_cell`
pub mod LooseValues
