mod CountLemmas
mod PlaceLemmas
mod WindowLemmas
