-- What is said of reads, or nothing.
use Rattle.std.specs.Prelude.{◌≡◌, ◌⊎◌, ℕ, List}
use Rattle.wb_explain_places.specs.declared.source.Source.{Source}
use Rattle.wb_syntax_resolved.specs.declared.attribution.AttributionParts.{AttributionParts}
use Rattle.wb_syntax_resolved.specs.declared.production.Production.{Production}
use Rattle.wb_explain_flows.specs.declared.chain.Step.{Step}
use Rattle.wb_explain_flows.specs.Reads.{SaysReads}
use Rattle.wb_explain_flows.specs.Steps.{SaysChain}

-- a chain of steps is shown, or nothing is said
abbrev pub SaysChainOr : Source → AttributionParts → Production → Step → List ℕ → List ℕ → Type 0
SaysChainOr source a p ends old new = (new ≡ old) ⊎ SaysChain source a p ends old new

-- a chain of reads of a production is shown for a reason, or nothing is said
abbrev pub SaysReadsOr : Source → AttributionParts → List ℕ → List ℕ → Type 0
SaysReadsOr source a old new = (new ≡ old) ⊎ SaysReads source a old new
