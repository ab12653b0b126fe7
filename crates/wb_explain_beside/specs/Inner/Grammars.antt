-- What is said of the grammars of an extension and its host.
use Rattle.std.specs.Prelude.{◌≡◌, ◌⊎◌, ℕ, List}
use Rattle.wb_syntax_resolved.specs.declared.resolved.ResolvedParts.{ResolvedParts}
use Rattle.wb_explain_beside.specs.Said.{SaysGrammars}

-- nothing is said of an extension of this host, or something is said of the grammars of both
abbrev pub Says : ResolvedParts → ResolvedParts → List ℕ → List ℕ → Type 0
Says base value old new = (new ≡ old) ⊎ SaysGrammars base value old new
