-- That extensions declare occurrences and write equations only where they may.
use Rattle.std.specs.Prelude.{◌≡◌, ◌⊎◌, ℕ, true, Some, All, Contains, option_map, slice_get}
use Rattle.wb_base.specs.declared.symbol.Kind.TheVariants as kind
use Rattle.wb_syntax_resolved.specs.declared.attributes.Attribute.{Attribute}
use Rattle.wb_syntax_resolved.specs.declared.attributes.Nonterminal.{Nonterminal}
use Rattle.wb_syntax_resolved.specs.declared.attributes.Occurrence.{Occurrence}
use Rattle.wb_syntax_resolved.specs.declared.equation.Equation.{Equation}
use Rattle.wb_syntax_resolved.specs.declared.equation.Place.TheVariants as place
use Rattle.wb_syntax_resolved.specs.declared.equation.Target.{Target}
use Rattle.wb_syntax_resolved.specs.declared.equation.Target.TheVariants as target
use Rattle.wb_syntax_resolved.specs.declared.production.ChildKind.TheVariants as child
use Rattle.wb_syntax_resolved.specs.declared.production.Local.{Local}
use Rattle.wb_syntax_resolved.specs.declared.production.Production.{Production}
use Rattle.wb_syntax_resolved.specs.declared.attribution.AttributionParts.{AttributionParts}
use Rattle.wb_syntax_resolved.specs.Visible.{kind_at}

-- the occurrence is declared by the owner of its attribute or of its nonterminal
abbrev pub IsOwnOccurrence : AttributionParts → Occurrence → Type 0
IsOwnOccurrence a occurrence =
    (option_map (λ (r : Attribute). r.owner) (slice_get a.attributes occurrence.attribute) ≡ Some occurrence.owner)
    ⊎ (option_map (λ (r : Nonterminal). r.owner) (slice_get a.nonterminals occurrence.nonterminal) ≡ Some occurrence.owner)

-- there is a nonterminal of this number, and it is closed
abbrev pub IsClosed : AttributionParts → ℕ → Type 0
IsClosed a number = option_map (λ (r : Nonterminal). r.closed) (slice_get a.nonterminals number) ≡ Some true

-- on a closed nonterminal only its owner declares an occurrence
abbrev pub IsOpenTo : AttributionParts → Occurrence → Type 0
IsOpenTo a occurrence = IsClosed a occurrence.nonterminal
    → option_map (λ (r : Nonterminal). r.owner) (slice_get a.nonterminals occurrence.nonterminal) ≡ Some occurrence.owner

-- the occurrence is the one that an equation with this target is for
abbrev pub IsTargetOf : Production → Target → Occurrence → Type 0
IsTargetOf production (target.Top attribute) occurrence =
    (occurrence.attribute ≡ attribute) × (occurrence.nonterminal ≡ production.left)
IsTargetOf production (target.Place at attribute) occurrence =
    (occurrence.attribute ≡ attribute) × (kind_at production at ≡ Some (child.Value (kind.Tree occurrence.nonterminal)))
IsTargetOf production (target.Forward attribute) occurrence =
    (occurrence.attribute ≡ attribute) × (occurrence.nonterminal ≡ production.left)

-- the owner declared the local that an equation is for
abbrev pub IsForOwnLocal : Production → ℕ → Target → Type 0
IsForOwnLocal production owner (target.Place (place.Local k) attribute) =
    option_map (λ (l : Local). l.owner) (slice_get production.locals k) ≡ Some owner
IsForOwnLocal production owner other = ⊥

-- the owner declared the occurrence that an equation is for
pub record IsForOwnOccurrence (a : AttributionParts) (production : Production) (owner : ℕ) (is_for : Target) : Type 0 where
  pub occurrence : Occurrence
  pub listed : Contains a.occurrences occurrence
  pub is_target : IsTargetOf production is_for occurrence
  pub declared : occurrence.owner ≡ owner

-- an equation is on its owner's production, for its own local there, or for an occurrence that it declared
abbrev pub IsOwnEquation : AttributionParts → Production → Equation → Type 0
IsOwnEquation a production equation =
    (production.owner ≡ equation.owner) ⊎ IsForOwnLocal production equation.owner equation.target
    ⊎ IsForOwnOccurrence a production equation.owner equation.target

-- each occurrence and each equation is one that its owner may declare or write
pub record IsOwned (a : AttributionParts) : Type 0 where
  pub occurrences : All (IsOwnOccurrence a) a.occurrences
  pub open_to : All (IsOpenTo a) a.occurrences
  pub equations : All (λ (production : Production). All (IsOwnEquation a production) production.equations) a.productions
