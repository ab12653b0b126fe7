-- What is said of attributes that aren't well defined.
use Rattle.std.specs.Prelude.{◌≡◌, ℕ, List}
use Rattle.wb_explain_places.specs.declared.source.Source.{Source}
use Rattle.wb_syntax_resolved.specs.declared.attribution.AttributionParts.{AttributionParts}
use Rattle.wb_explain_flows_lists.specs.Handed.{SaysHanded}
use Rattle.wb_explain_flows_lists.specs.Held.{SaysUnheld}
use Rattle.wb_explain_flows_lists.specs.Missing.{SaysMissing}
use Rattle.wb_explain_flows.specs.Reads.{SaysReads}

-- of attributes it is said which equations of left sides are missing, which attributes aren't handed down, which flow types lack something,
-- or which reads lead where they may not; or nothing is said
pub data SaysOf (source : Source) (a : AttributionParts) (old new : List ℕ) : Type 0 where
  nothing : new ≡ old → SaysOf source a old new
  missing : SaysMissing a old new → SaysOf source a old new
  handed : SaysHanded a old new → SaysOf source a old new
  unheld : SaysUnheld a old new → SaysOf source a old new
  reads : SaysReads source a old new → SaysOf source a old new
