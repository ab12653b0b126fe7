mod AtLemmas
mod KnownLemmas
mod OperationLemmas
mod PlaceLemmas
mod SaidLemmas
mod StepLemmas
