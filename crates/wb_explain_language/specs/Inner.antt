-- extensions that were added to a host
pub mod Added
-- lines of attributes that can be asked
pub mod Asked
