mod HeadLemmas
mod LineLemmas
