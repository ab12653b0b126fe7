mod BodyLemmas
mod LineLemmas
mod PartLemmas
mod ProgressLemmas
mod StringLemmas
