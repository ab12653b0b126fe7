pub mod ClosedLemmas
pub mod DialectLemmas
mod EquationComplete
mod EquationSound
pub mod Excluding
mod ExpressionComplete
mod ExpressionSound
mod FaultLemmas
mod Fields
pub mod FormatLemmas
mod Giving
pub mod HeadLemmas
pub mod HomeLemmas
mod ItemComplete
mod ItemSound
mod Many
pub mod NoneBegins
pub mod OneText
mod PartComplete
mod PartSound
pub mod PatternLemmas
mod PlainForms
mod Taking
pub mod TextLemmas
mod WholeSound
