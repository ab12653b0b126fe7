-- Which attributes of a host may be asked at the start, by itself and with extensions.
use Rattle.std.specs.Prelude.{[], ℕ, List}
use Rattle.wb_operations.specs.Operations.{OperationSignature}
use Rattle.wb_syntax_resolved.specs.declared.resolved.ResolvedParts.{ResolvedParts}
use Rattle.wb_eval_root.specs.Asked.{IsPrintedAs}
use Rattle.wb_compose_texts.specs.Roots.{HasNoRootAttribute, IsRootAttribute}

-- an attribute of the host is printed so
abbrev pub IsHostAttribute : ResolvedParts → List ℕ → Type 0
IsHostAttribute host name = (attribute : ℕ) × IsPrintedAs host.attributes name attribute

-- by the name an attribute may be asked with the extensions where one may in the host by itself, and none where none may
pub record HasSameRoots (host : ResolvedParts) (operations : List OperationSignature) (extensions : List ResolvedParts)
    (name : List ℕ) : Type 0 where
  pub some : (attribute : ℕ) → IsRootAttribute host operations [] name attribute →
      (other : ℕ) × IsRootAttribute host operations extensions name other
  pub none : HasNoRootAttribute host operations [] name → HasNoRootAttribute host operations extensions name
