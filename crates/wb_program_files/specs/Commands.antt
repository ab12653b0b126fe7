-- What each command on files that stand alone reports, and which files it comes to read.
pub mod Show
pub mod Check
pub mod Certify
pub mod Value
pub mod Recheck
