-- Words of private functions: what the answer to words is; what is reported of a certificate; which commands are on texts.
pub mod Answered
pub mod Certificates
pub mod OnTexts
