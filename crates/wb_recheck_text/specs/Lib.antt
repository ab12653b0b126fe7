-- certificates, and the text of each
pub mod Text
-- which bytes are the text of a certificate, and where other bytes first go wrong
pub mod Faults
-- what a reading of a part of a text has found
pub mod Inner
