pub mod AgreementLemmas
pub mod CallerLemmas
pub mod Enumerations
mod FirstByteLemmas
mod IntegerLemmas
pub mod KindLaws
pub mod LineFeedLemmas
pub mod LinesLemmas
mod LongestLemmas
mod MarkLemmas
pub mod NoPieceLemmas
mod OnlyLemmas
pub mod OverLemmas
mod PartLemmas
pub mod PlacedLaws
mod PrintLemmas
mod QuotedLemmas
pub mod SampleLemmas
mod SkippingLemmas
pub mod StandingLemmas
mod WordLemmas
