-- what each search for an equation finds
pub mod Equations
-- what is said of reads, or nothing
pub mod Either
