mod LabelLemmas
mod LineLemmas
mod PictureLemmas
