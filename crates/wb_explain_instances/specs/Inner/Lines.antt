-- One line more.
use Rattle.std.specs.Prelude.{◌≡◌, ◌++◌, ℕ, List}
use Rattle.wb_eval.specs.declared.machine.Key.{Key}
use Rattle.wb_syntax_resolved.specs.declared.attribution.AttributionParts.{AttributionParts}
use Rattle.wb_explain_instances.specs.Said.{IsLine}

-- after what was there comes a line of what waits
abbrev pub HasLine : AttributionParts → Key → List ℕ → List ℕ → Type 0
HasLine a k old new = (line : List ℕ) × IsLine a k line × (new ≡ old ++ line)
