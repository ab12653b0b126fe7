-- kernels and entries as they are listed, one after another, and kernels that had other numbers
pub mod Worklists
