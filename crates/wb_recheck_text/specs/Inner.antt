-- parts of texts, and where a part first goes wrong
pub mod Parts
-- how far a certificate has been read
pub mod Progress
