-- Which attribute may be asked at the start of a host with extensions, by its printed name.
use Rattle.std.specs.Prelude.{◌≡◌, ℕ, List}
use Rattle.wb_compose.specs.Attributes.{attributes_of}
use Rattle.wb_operations.specs.Operations.{OperationSignature}
use Rattle.wb_syntax_resolved.specs.declared.attribution.AttributionParts.{AttributionParts}
use Rattle.wb_syntax_resolved.specs.declared.resolved.ResolvedParts.{ResolvedParts}
use Rattle.wb_eval_root.specs.Asked.{IsAskedOn}
use Rattle.wb_compose_texts.specs.Unions.{Union}

module _ (host : ResolvedParts) (operations : List OperationSignature) (extensions : List ResolvedParts) where
  -- the attributes of the union
  abbrev pub attributes_in : Union host operations extensions → AttributionParts
  attributes_in u = attributes_of host u.grammar u.extended

  -- the attribute is printed so and may be asked at the start of the union
  abbrev pub IsAskedIn : Union host operations extensions → (name : List ℕ) → (attribute : ℕ) → Type 0
  IsAskedIn u name attribute = IsAskedOn (attributes_in u) name u.grammar.start attribute

  -- the host has with the extensions this attribute, which is printed so and may be asked at the start
  pub record IsRootAttribute (name : List ℕ) (attribute : ℕ) : Type 0 where
    pub whole : Union host operations extensions
    pub asked : IsAskedIn whole name attribute

  -- it has with them none that is printed so and may be asked there
  pub record HasNoRootAttribute (name : List ℕ) : Type 0 where
    pub whole : Union host operations extensions
    pub none : (attribute : ℕ) → ¬ IsAskedIn whole name attribute

-- at most one attribute of a name may be asked at the start, and none is or one is
pub record HasOneRootAttribute (host : ResolvedParts) (operations : List OperationSignature) (extensions : List ResolvedParts) : Type 0
  where
    pub one : (name : List ℕ) (attribute other : ℕ) → IsRootAttribute host operations extensions name attribute →
        IsRootAttribute host operations extensions name other → attribute ≡ other
    pub not_both : (name : List ℕ) (attribute : ℕ) → IsRootAttribute host operations extensions name attribute →
        ¬ HasNoRootAttribute host operations extensions name
