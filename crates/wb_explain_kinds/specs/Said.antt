-- What is said of contents that are refused for a kind, or for a number of arguments.
use Rattle.std.specs.Prelude.{◌≡◌, ◌⊎◌, ℕ, List, Option, Some, None}
use Rattle.wb_operations.specs.Operations.{OperationSignature}
use Rattle.wb_syntax_resolved.specs.declared.resolved.ResolvedParts.{ResolvedParts}
use Rattle.wb_certify_files.specs.HostContents as hosts
use Rattle.wb_certify_files.specs.ExtensionContents as extensions
use Rattle.wb_explain_mismatches.specs.Said.{Says}

-- the contents stand for a host, of which this is said
pub record SaysHost (operations : List OperationSignature) (contents old new : List ℕ) : Type 0 where
  pub value : ResolvedParts
  pub stands : hosts.StandsFor contents value
  pub says : Says value.attributes operations old new

-- with a host for which other contents stand, they stand for an extension, of which this is said
pub record SaysBeside (operations : List OperationSignature) (beside contents old new : List ℕ) : Type 0 where
  pub base : ResolvedParts
  pub stands_for : hosts.StandsFor beside base
  pub value : ResolvedParts
  pub stands : extensions.StandsFor base contents value
  pub says : Says value.attributes operations old new

-- nothing is said, or that of a host, or that of an extension beside the contents of a host
abbrev pub SaysOf : List OperationSignature → Option (List ℕ) → List ℕ → List ℕ → List ℕ → Type 0
SaysOf operations None contents old new = (new ≡ old) ⊎ SaysHost operations contents old new
SaysOf operations (Some beside) contents old new = (new ≡ old) ⊎ SaysBeside operations beside contents old new
