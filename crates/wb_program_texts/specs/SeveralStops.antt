-- At which file a run stops that reads a host and several extensions.
use Rattle.std.specs.Prelude.{ℕ, List, [], ◌∷◌, ◌≤◌, length, ◌⊎◌, ◌++◌, Option}
use Rattle.wb_world.specs.Shelf.{Files}
use Rattle.wb_operations.specs.Operations.{OperationSignature}
use Rattle.wb_syntax_resolved.specs.declared.resolved.ResolvedParts.{ResolvedParts}
use Rattle.wb_program_files.specs.HostContents.{IsHostText}
use Rattle.wb_program_files.specs.Files.{KnownFile}
use Rattle.wb_program_texts.specs.SeveralChecks.{IsNext, AreEach}

-- of extensions in their order, after these, one meets this, and all before it are certified with different names
abbrev pub StopsEach : List OperationSignature → Option Files → ResolvedParts → (List ℕ → Type 0) → List (List ℕ) → List ResolvedParts
    → Type 0
StopsEach operations known host P [] before = ⊥
StopsEach operations known host P (file ∷ files) before =
    P file ⊎ ((value : ResolvedParts) × IsNext operations known host before file value ×
    StopsEach operations known host P files (before ++ value ∷ []))

-- one of the extensions meets this, or all are certified with different names and this holds of them
abbrev pub StopsThen : List OperationSignature → Option Files → ResolvedParts → (List ℕ → Type 0) → List (List ℕ)
    → (List ResolvedParts → Type 0) → Type 0
StopsThen operations known host P files End =
    StopsEach operations known host P files []
    ⊎ ((values : List ResolvedParts) × AreEach operations known host files [] values × End values)

-- where there aren't too many extensions, the host meets this, or it is certified and one of the extensions does, or all are certified with
-- different names and this holds of the host and of them
abbrev pub StopsComposed : List OperationSignature → Option Files → List ℕ → List (List ℕ) → (List ℕ → Type 0)
    → (ResolvedParts → List ResolvedParts → Type 0) → Type 0
StopsComposed operations known host extensions P End =
    (length extensions ≤ 64) × (P host ⊎ ((r : ResolvedParts) × KnownFile known host (λ contents. IsHostText operations contents r) ×
    StopsThen operations known r P extensions (End r)))
