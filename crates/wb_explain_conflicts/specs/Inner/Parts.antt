-- What is said of one value, and of one grammar.
use Rattle.std.specs.Prelude.{◌≡◌, ◌⊎◌, ℕ, List}
use Rattle.wb_base.specs.Grammar.{GrammarView}
use Rattle.wb_explain_readings.specs.declared.found.Found.{Found}
use Rattle.wb_explain_readings.specs.Readings.{AreReadings}
use Rattle.wb_syntax_resolved.specs.declared.resolved.ResolvedParts.{ResolvedParts}
use Rattle.wb_explain_conflicts.specs.Said.{Lines, ShowsConflict}

-- nothing is said, or a conflict is shown of this value
abbrev pub SaysOf : ResolvedParts → List ℕ → List ℕ → Type 0
SaysOf r old new = (new ≡ old) ⊎ ShowsConflict r old new

-- nothing is said, or trees of this grammar are shown
abbrev pub SaysIn : ResolvedParts → GrammarView → List ℕ → List ℕ → Type 0
SaysIn r g old new = (new ≡ old) ⊎ ((found : Found) × AreReadings g found × Lines r found old new)

-- nothing is said, or these trees are shown
abbrev pub SaysFound : ResolvedParts → Found → List ℕ → List ℕ → Type 0
SaysFound r found old new = (new ≡ old) ⊎ Lines r found old new
