-- what tables of names and signatures are made of
pub mod Tables
-- expressions as they are added
pub mod Added
-- what comes of what a text was parsed to
pub mod Parsed
-- the first marker of a text by number
pub mod FirstMarkers
-- sets that are filled
pub mod Sets
-- lines that are gathered
pub mod Gathered
-- how far edits have come, and where they halt
pub mod Walks
