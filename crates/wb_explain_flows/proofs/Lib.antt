mod ChainLemmas
mod StepLemmas
mod SaidLemmas
mod ReadLemmas
