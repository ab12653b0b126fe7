-- What an owner sees: nonterminals, productions, attributes and where they occur, and the children and locals of a production.
use Rattle.std.specs.Prelude.{◌≡◌, ℕ, Option, Some, None, Contains, option_map, slice_get}
use Rattle.wb_base.specs.declared.symbol.Kind.{Kind}
use Rattle.wb_base.specs.declared.symbol.Kind.TheVariants as kind
use Rattle.wb_syntax_resolved.specs.declared.attributes.Attribute.{Attribute}
use Rattle.wb_syntax_resolved.specs.declared.attributes.Direction.{Direction}
use Rattle.wb_syntax_resolved.specs.declared.attributes.Nonterminal.{Nonterminal}
use Rattle.wb_syntax_resolved.specs.declared.attributes.Occurrence.{Occurrence}
use Rattle.wb_syntax_resolved.specs.declared.equation.Place.{Place}
use Rattle.wb_syntax_resolved.specs.declared.equation.Place.TheVariants as place
use Rattle.wb_syntax_resolved.specs.declared.production.ChildKind.{ChildKind}
use Rattle.wb_syntax_resolved.specs.declared.production.ChildKind.TheVariants as child
use Rattle.wb_syntax_resolved.specs.declared.production.Local.{Local}
use Rattle.wb_syntax_resolved.specs.declared.production.Production.{Production}
use Rattle.wb_syntax_resolved.specs.Owners.{Sees}
use Rattle.wb_syntax_resolved.specs.declared.attribution.AttributionParts.{AttributionParts}

-- there is a nonterminal of this number, and the owner sees it
pub record SeesNonterminal (a : AttributionParts) (owner number : ℕ) : Type 0 where
  pub nonterminal : Nonterminal
  pub is : slice_get a.nonterminals number ≡ Some nonterminal
  pub seen : Sees owner nonterminal.owner

-- there is a production of this number, and the owner sees it
pub record SeesProduction (a : AttributionParts) (owner number : ℕ) : Type 0 where
  pub production : Production
  pub is : slice_get a.productions number ≡ Some production
  pub seen : Sees owner production.owner

-- there is an attribute of this number whose values go this way, and the owner sees it
pub record SeesAttribute (a : AttributionParts) (owner : ℕ) (direction : Direction) (number : ℕ) : Type 0 where
  pub attribute : Attribute
  pub is : slice_get a.attributes number ≡ Some attribute
  pub goes : attribute.direction ≡ direction
  pub seen : Sees owner attribute.owner

-- there is an attribute of this number whose values go this way, it occurs on this nonterminal, and the owner sees both
pub record SeesOccurrence (a : AttributionParts) (owner : ℕ) (direction : Direction) (number nonterminal : ℕ) : Type 0 where
  pub attribute : SeesAttribute a owner direction number
  pub occurrence : Occurrence
  pub listed : Contains a.occurrences occurrence
  pub of_attribute : occurrence.attribute ≡ number
  pub on_nonterminal : occurrence.nonterminal ≡ nonterminal
  pub seen : Sees owner occurrence.owner

-- the kind is plain, or that of a nonterminal that the owner sees
abbrev pub SeesKind : AttributionParts → ℕ → Kind → Type 0
SeesKind a owner kind.Int = Unit {0}
SeesKind a owner kind.Bool = Unit {0}
SeesKind a owner kind.Text = Unit {0}
SeesKind a owner (kind.Tree nonterminal) = SeesNonterminal a owner nonterminal

-- what is at a place of a production; a local is a tree of its nonterminal
abbrev pub kind_at : Production → Place → Option ChildKind
kind_at production (place.Child k) = option_map (λ c. c.kind) (slice_get production.children k)
kind_at production (place.Local k) = option_map (λ (l : Local). child.Value (kind.Tree l.nonterminal)) (slice_get production.locals k)

-- the owner of a local, or else of the production
abbrev pub owner_of_local : Production → Option Local → ℕ
owner_of_local production None = production.owner
owner_of_local production (Some l) = l.owner

-- whose a place is: a child is its production's
abbrev pub place_owner : Production → Place → ℕ
place_owner production (place.Child k) = production.owner
place_owner production (place.Local k) = owner_of_local production (slice_get production.locals k)

-- there is a child or local of this kind at the place, and the owner sees it
pub record SeesPlace (production : Production) (owner : ℕ) (at : Place) (is_kind : ChildKind) : Type 0 where
  pub is : kind_at production at ≡ Some is_kind
  pub seen : Sees owner (place_owner production at)
