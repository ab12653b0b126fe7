-- That productions and attributes are numbered in order, and what the signatures are then. Nonterminals are in `Grammar`.
use Rattle.std.specs.Prelude.{◌≡◌, ◌<◌, ◌≤◌, ℕ, List, Some, map, slice_get}
use Rattle.wb_base.specs.declared.symbol.Kind.{Kind}
use Rattle.wb_base.specs.declared.symbol.Kind.TheVariants as kind
use Rattle.wb_values.specs.Signature.{Signature}
use Rattle.wb_syntax_resolved.specs.declared.attributes.Attribute.{Attribute}
use Rattle.wb_syntax_resolved.specs.declared.attribution.AttributionParts.{AttributionParts}
use Rattle.wb_syntax_resolved.specs.declared.production.Child.{Child}
use Rattle.wb_syntax_resolved.specs.declared.production.ChildKind.{ChildKind}
use Rattle.wb_syntax_resolved.specs.declared.production.ChildKind.TheVariants as child
use Rattle.wb_syntax_resolved.specs.declared.production.Production.{Production}
use Rattle.wb_syntax_resolved.specs.declared.production.ProductionRole.TheVariants.{Concrete}
use Rattle.wb_syntax_resolved.specs.Owners.{printed_name}

-- the kind of a child's value: a terminal's is the text of its lexeme
abbrev pub value_kind : ChildKind → Kind
value_kind (child.Terminal number) = kind.Text
value_kind (child.Value is) = is

-- the signature of a production, with its name as reports write it
abbrev pub signature_of : List (List ℕ) → Production → Signature
signature_of extensions production = record {
  name = printed_name extensions production.owner production.name;
  left = production.left;
  children = map (λ (c : Child). value_kind c.kind) production.children;
}

-- the leading group comes first, and within each of the two groups owners don't fall
abbrev pub IsGrouped : {X : Type 0} → (X → ℕ) → (ℕ → X → Type 0) → List X → Type 0
IsGrouped {X} owner_of IsLeading xs = (i j : ℕ) (x y : X) → i < j → slice_get xs i ≡ Some x → slice_get xs j ≡ Some y
    → (IsLeading j y → IsLeading i x) × ((IsLeading i x → IsLeading j y) → owner_of x ≤ owner_of y)

-- the signatures are those of the productions; concrete productions come before abstract ones, each by owner; attributes go by owner
pub record IsNumbered (a : AttributionParts) : Type 0 where
  pub signatures : a.signatures ≡ map (signature_of a.extensions) a.productions
  pub productions : IsGrouped (λ (r : Production). r.owner) (λ p r. r.role ≡ Concrete) a.productions
  pub attributes : IsGrouped (λ (r : Attribute). r.owner) (λ x r. Unit {0}) a.attributes
