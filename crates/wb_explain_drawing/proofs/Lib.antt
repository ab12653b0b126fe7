pub mod PushedLemmas
mod CursorLemmas
mod ListingLemmas
