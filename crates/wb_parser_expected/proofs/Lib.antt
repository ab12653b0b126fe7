mod MachineLemmas
mod TrialLemmas
mod StopLemmas
mod WalkLemmas
mod EachLemmas
mod WordLemmas
