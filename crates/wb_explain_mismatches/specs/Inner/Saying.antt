-- What private functions may say.
use Rattle.std.specs.Prelude.{◌≡◌, ◌⊎◌, ◌++◌, ℕ, List}
use Rattle.wb_base.specs.declared.symbol.Kind.{Kind}
use Rattle.wb_operations.specs.Operations.{OperationSignature}
use Rattle.wb_syntax_resolved.specs.declared.attribution.AttributionParts.{AttributionParts}
use Rattle.wb_syntax_resolved.specs.Expression.{Node}
use Rattle.wb_explain_mismatches.specs.Said.{IsSaid, SaysCount, SaysPart, SaysWhole, count_said}

-- something comes after what was there
abbrev pub Grows : List ℕ → List ℕ → Type 0
Grows old new = (more : List ℕ) × (new ≡ old ++ more)

-- nothing is said, or which kind is wanted and which is there
abbrev pub MayBeSaid : AttributionParts → List OperationSignature → List ℕ → Kind → Kind → List ℕ → List ℕ → Type 0
MayBeSaid a operations role wanted found old new = (new ≡ old) ⊎ IsSaid a operations role wanted found old new

-- it is said how many arguments a node takes and has
pub record CountIsSaid (a : AttributionParts) (node : Node) (takes : ℕ) (old new : List ℕ) : Type 0 where
  pub before : List ℕ
  pub after : List ℕ
  pub lines : new ≡ old ++ before ++ count_said a node takes ++ after

-- nothing is said, or what is said of a kind
abbrev pub MaySayKind : AttributionParts → List OperationSignature → ℕ → List ℕ → List ℕ → Type 0
MaySayKind a operations offset old new = (new ≡ old) ⊎ (SaysPart a operations offset old new ⊎ SaysWhole a operations offset old new)

-- nothing is said, or what is said of a number of arguments
abbrev pub MaySayCount : AttributionParts → List OperationSignature → ℕ → List ℕ → List ℕ → Type 0
MaySayCount a operations offset old new = (new ≡ old) ⊎ SaysCount a operations offset old new
