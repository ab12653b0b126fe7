-- Words of private functions.
pub mod RefusedHosts
pub mod RefusedExtensions
-- what is shown of refusals by a certificate's text
pub mod RecheckShown
