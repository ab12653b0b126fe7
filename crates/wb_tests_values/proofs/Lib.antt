mod NameLemmas
mod SampleLemmas
