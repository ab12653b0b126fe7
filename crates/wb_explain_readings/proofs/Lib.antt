mod FrameLemmas
mod LeafLemmas
mod NodeLemmas
mod StepLemmas
