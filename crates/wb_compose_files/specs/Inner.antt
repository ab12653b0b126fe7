-- the steps from contents to an extension after others
pub mod Next
