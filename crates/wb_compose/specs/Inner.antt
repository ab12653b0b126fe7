-- what is lent to the union
pub mod Lending
-- what is cut out of a host and of extensions
pub mod Cuts
