-- What is said of what was found, or of the tree of a text.
use Rattle.std.specs.Prelude.{◌≡◌, ◌⊎◌, ℕ, List, Option, Some, None}
use Rattle.wb_eval.specs.declared.halt.Waiting.{Waiting}
use Rattle.wb_explain_instances.specs.Ends.{SaysEnd}
use Rattle.wb_explain_places.specs.declared.source.Source.{Source}
use Rattle.wb_operations.specs.Operations.{Operations}
use Rattle.wb_session.specs.parsed.Parsed.{Parsed}
use Rattle.wb_session.specs.parsed.Parsed.TheVariants as parsed
use Rattle.wb_syntax_resolved.specs.declared.attribution.AttributionParts.{AttributionParts}
use Rattle.wb_values.specs.Tree.{Tree}
use Rattle.wb_values.specs.ValuesIn.{tree_in}
use Rattle.wb_explain_values.specs.Said.{SaysWaiting}

-- what waits is said, where something does
abbrev pub SaysFound : List Source → AttributionParts → List Tree → Option Waiting → List ℕ → List ℕ → Type 0
SaysFound files a trees None old new = new ≡ old
SaysFound files a trees (Some w) old new = SaysEnd a trees w files old new

-- nothing is said, or what waits in the tree that a text was parsed to
abbrev pub SaysOfParsed : List Source → AttributionParts → Operations → List Tree → ℕ → ℕ → Parsed → List ℕ → List ℕ → Type 0
SaysOfParsed files a operations store attribute steps (parsed.Tree id) old new =
    (new ≡ old) ⊎ SaysWaiting files a operations (tree_in store id.0) attribute steps old new
SaysOfParsed files a operations store attribute steps (parsed.Stopped at kind) old new = new ≡ old
