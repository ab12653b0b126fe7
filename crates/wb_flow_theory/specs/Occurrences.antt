-- Where attributes occur, and what their flow types have.
use Rattle.std.specs.Prelude.{◌≡◌, ℕ, List, Some, Contains, option_map, slice_get}
use Rattle.wb_syntax_resolved.specs.declared.attributes.Attribute.{Attribute}
use Rattle.wb_syntax_resolved.specs.declared.attributes.Direction.{Direction}
use Rattle.wb_syntax_resolved.specs.declared.attributes.Nonterminal.{Nonterminal}
use Rattle.wb_syntax_resolved.specs.declared.attributes.Occurrence.{Occurrence}
use Rattle.wb_syntax_resolved.specs.declared.attribution.AttributionParts.{AttributionParts}

-- the values of the attribute of this number go this way
abbrev pub Goes : AttributionParts → Direction → ℕ → Type 0
Goes a direction number = option_map (λ (r : Attribute). r.direction) (slice_get a.attributes number) ≡ Some direction

-- an occurrence of the attribute on the nonterminal has this flow type
pub record HasFlowType (a : AttributionParts) (attribute nonterminal : ℕ) (needs : List ℕ) : Type 0 where
  pub occurrence : Occurrence
  pub listed : Contains a.occurrences occurrence
  pub of_attribute : occurrence.attribute ≡ attribute
  pub on_nonterminal : occurrence.nonterminal ≡ nonterminal
  pub needs_are : occurrence.needs ≡ needs

-- the attribute occurs on the nonterminal
abbrev pub IsOn : AttributionParts → ℕ → ℕ → Type 0
IsOn a attribute nonterminal = (needs : List ℕ) × HasFlowType a attribute nonterminal needs

-- an attribute whose values go this way occurs on the nonterminal
pub record Occurs (a : AttributionParts) (direction : Direction) (attribute nonterminal : ℕ) : Type 0 where
  pub goes : Goes a direction attribute
  pub on : IsOn a attribute nonterminal

-- the flow type of an attribute on a nonterminal has the inherited attribute
abbrev pub Needs : AttributionParts → ℕ → ℕ → ℕ → Type 0
Needs a attribute nonterminal inherited = (needs : List ℕ) × HasFlowType a attribute nonterminal needs × Contains needs inherited

-- the flow type of the forward of a nonterminal has the inherited attribute
abbrev pub ForwardNeeds : AttributionParts → ℕ → ℕ → Type 0
ForwardNeeds a nonterminal inherited =
    (r : Nonterminal) × (slice_get a.nonterminals nonterminal ≡ Some r) × Contains r.forward_needs inherited
