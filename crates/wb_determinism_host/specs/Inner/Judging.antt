-- What is judged, as references to it.
use Rattle.wb_determinism_contexts.specs.Considered.{LexiconView}
use Rattle.wb_determinism_host.specs.declared.judge.Judged.{Judged}
use Rattle.wb_determinism_host.specs.HostGrammar.{HasGrammar}
use Rattle.wb_determinism_host.specs.Judged.{IsReadyToJudge}
use Rattle.wb_determinism_host.specs.Inner.Lists.{lexicon_in}

-- the host has the grammar, and passes every test before the conflict
pub record IsJudged (x : Judged) : Type 0 where
  pub has : HasGrammar x.resolved.now x.grammar.now
  pub ready : IsReadyToJudge x.resolved.now x.grammar.now x.holes.now x.facts.now x.kernels.now x.lookaheads.now

-- what is scanned of it
abbrev pub judged_lexicon : Judged → LexiconView
judged_lexicon x = lexicon_in x.resolved.now x.grammar.now x.first
