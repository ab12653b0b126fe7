pub mod CertifyLaws
pub mod CheckLaws
pub mod Excludes
mod ExtensionLemmas
pub mod FileLemmas
mod HostLemmas
pub mod MakesLemmas
pub mod OneCertificate
pub mod OneCheck
pub mod OneHostChecks
mod PairLemmas
mod Pieces
pub mod RecheckLaws
mod RecheckLemmas
pub mod ShowLaws
mod ShowLemmas
pub mod StopLemmas
pub mod ValueLaws
pub mod WordLemmas
pub mod WrittenWhole
