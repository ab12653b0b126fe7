mod LineStateLemmas
pub mod ListedLemmas
mod MissingLemmas
mod PlaceLemmas
