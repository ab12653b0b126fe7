-- That each name is declared where whoever writes it sees it, and has the kind that its position asks for; operations aside.
use Rattle.std.specs.Prelude.{◌≡◌, ℕ, List, [], Some, All, IfSome, IsSome, slice_get}
use Rattle.wb_base.specs.declared.symbol.Kind.{Kind}
use Rattle.wb_base.specs.declared.symbol.Kind.TheVariants as kind
use Rattle.wb_base.specs.Identifiers.{IsName}
use Rattle.wb_syntax_expressions.specs.declared.node.Node.TheVariants as n
use Rattle.wb_syntax_expressions.specs.Expression.{IsWhole}
use Rattle.wb_syntax_resolved.specs.declared.attributes.Attribute.{Attribute}
use Rattle.wb_syntax_resolved.specs.declared.attributes.Direction.{Direction}
use Rattle.wb_syntax_resolved.specs.declared.attributes.Direction.TheVariants.{Synthesized, Inherited}
use Rattle.wb_syntax_resolved.specs.declared.attributes.Nonterminal.{Nonterminal}
use Rattle.wb_syntax_resolved.specs.declared.attributes.Occurrence.{Occurrence}
use Rattle.wb_syntax_resolved.specs.declared.equation.Equation.{Equation}
use Rattle.wb_syntax_resolved.specs.declared.equation.Target.{Target}
use Rattle.wb_syntax_resolved.specs.declared.equation.Target.TheVariants as target
use Rattle.wb_syntax_resolved.specs.declared.production.Child.{Child}
use Rattle.wb_syntax_resolved.specs.declared.production.ChildKind.{ChildKind}
use Rattle.wb_syntax_resolved.specs.declared.production.ChildKind.TheVariants as child
use Rattle.wb_syntax_resolved.specs.declared.production.Forward.{Forward}
use Rattle.wb_syntax_resolved.specs.declared.production.Local.{Local}
use Rattle.wb_syntax_resolved.specs.declared.production.Production.{Production}
use Rattle.wb_syntax_resolved.specs.declared.production.ProductionRole.{ProductionRole}
use Rattle.wb_syntax_resolved.specs.declared.production.ProductionRole.TheVariants.{Concrete, Abstract}
use Rattle.wb_syntax_resolved.specs.Expression.{Node}
use Rattle.wb_syntax_resolved.specs.Owners.{Sees, IsOwner}
use Rattle.wb_syntax_resolved.specs.declared.attribution.AttributionParts.{AttributionParts}
use Rattle.wb_syntax_resolved.specs.Visible.{SeesNonterminal, SeesProduction, SeesAttribute, SeesOccurrence, SeesKind, SeesPlace}

-- what a node names is seen by whoever writes it on the production, and is of the kind that is read; a node of another form names nothing
abbrev pub IsNamedNode : AttributionParts → Production → ℕ → Node → Type 0
IsNamedNode a production owner (n.Label label) = (is : Kind) × SeesPlace production owner label (child.Value is)
IsNamedNode a production owner (n.Read label attribute) =
    (nonterminal : ℕ) × SeesPlace production owner label (child.Value (kind.Tree nonterminal))
    × SeesOccurrence a owner Synthesized attribute nonterminal
IsNamedNode a production owner (n.Lexeme label) = (terminal : ℕ) × SeesPlace production owner label (child.Terminal terminal)
IsNamedNode a production owner (n.Top attribute) = SeesOccurrence a owner Inherited attribute production.left
IsNamedNode a production owner (n.Forward attribute) =
    IsSome production.forward × SeesOccurrence a owner Synthesized attribute production.left
IsNamedNode a production owner (n.Build number children) = SeesProduction a owner number
IsNamedNode a production owner (n.Call operation arguments) = IsName operation
IsNamedNode a production owner node = Unit {0}

-- the nodes are one whole expression, and what each names is seen
pub record IsNamedExpression (a : AttributionParts) (production : Production) (owner : ℕ) (nodes : List Node) : Type 0 where
  pub whole : IsWhole nodes
  pub named : All (IsNamedNode a production owner) nodes

-- an equation may be for this: an attribute that goes this way, occurs there and is seen by whoever writes it
abbrev pub IsNamedTarget : AttributionParts → Production → ℕ → Target → Type 0
IsNamedTarget a production owner (target.Top attribute) = SeesOccurrence a owner Synthesized attribute production.left
IsNamedTarget a production owner (target.Place at attribute) =
    (nonterminal : ℕ) × SeesPlace production owner at (child.Value (kind.Tree nonterminal))
    × SeesOccurrence a owner Inherited attribute nonterminal
IsNamedTarget a production owner (target.Forward attribute) =
    IsSome production.forward × SeesOccurrence a owner Inherited attribute production.left

-- an equation of the production: its owner sees the production, what it is for and what it reads
pub record IsNamedEquation (a : AttributionParts) (production : Production) (equation : Equation) : Type 0 where
  pub owner : IsOwner a.extensions equation.owner
  pub there : Sees equation.owner production.owner
  pub target : IsNamedTarget a production equation.owner equation.target
  pub value : IsNamedExpression a production equation.owner equation.nodes

-- a local of the production: its owner sees the production, its nonterminal and what it reads
pub record IsNamedLocal (a : AttributionParts) (production : Production) (l : Local) : Type 0 where
  pub owner : IsOwner a.extensions l.owner
  pub there : Sees l.owner production.owner
  pub label : IsName l.label
  pub nonterminal : SeesNonterminal a l.owner l.nonterminal
  pub value : IsNamedExpression a production l.owner l.nodes

-- a child in a production of this role: of a concrete one a terminal or a tree, of another a value
abbrev pub IsChildKindOf : AttributionParts → ℕ → ProductionRole → ChildKind → Type 0
IsChildKindOf a owner Concrete (child.Terminal number) = Unit {0}
IsChildKindOf a owner Concrete (child.Value is) = (nonterminal : ℕ) × (is ≡ kind.Tree nonterminal) × SeesNonterminal a owner nonterminal
IsChildKindOf a owner Abstract (child.Terminal number) = ⊥
IsChildKindOf a owner Abstract (child.Value is) = SeesKind a owner is

-- a child of the production: its label is a name, and it is of a kind that the production may have
pub record IsNamedChild (a : AttributionParts) (production : Production) (c : Child) : Type 0 where
  pub label : IsName c.label
  pub is_kind : IsChildKindOf a production.owner production.role c.kind

-- a production: its owner sees its left side and its children, and all that is written on it is named
pub record IsNamedProduction (a : AttributionParts) (production : Production) : Type 0 where
  pub owner : IsOwner a.extensions production.owner
  pub name : IsName production.name
  pub left : SeesNonterminal a production.owner production.left
  pub children : All (IsNamedChild a production) production.children
  pub locals : All (IsNamedLocal a production) production.locals
  pub forward : IfSome production.forward (λ (f : Forward). IsNamedExpression a production production.owner f.nodes)
  pub equations : All (IsNamedEquation a production) production.equations

-- a nonterminal: what the flow type of its forward names is inherited, occurs on it, and is seen by its owner
pub record IsNamedNonterminal (a : AttributionParts) (number : ℕ) (nonterminal : Nonterminal) : Type 0 where
  pub owner : IsOwner a.extensions nonterminal.owner
  pub name : IsName nonterminal.name
  pub needs : All (λ i. SeesOccurrence a nonterminal.owner Inherited i number) nonterminal.forward_needs

-- an attribute: its owner sees its kind
pub record IsNamedAttribute (a : AttributionParts) (attribute : Attribute) : Type 0 where
  pub owner : IsOwner a.extensions attribute.owner
  pub name : IsName attribute.name
  pub is_kind : SeesKind a attribute.owner attribute.kind

-- an occurrence: its owner sees the attribute, the nonterminal and what its flow type names; one that is inherited has no flow type
pub record IsNamedOccurrence (a : AttributionParts) (occurrence : Occurrence) : Type 0 where
  pub owner : IsOwner a.extensions occurrence.owner
  pub direction : Direction
  pub attribute : SeesAttribute a occurrence.owner direction occurrence.attribute
  pub nonterminal : SeesNonterminal a occurrence.owner occurrence.nonterminal
  pub needs : All (λ i. SeesOccurrence a occurrence.owner Inherited i occurrence.nonterminal) occurrence.needs
  pub inherited : direction ≡ Inherited → occurrence.needs ≡ []

-- each name in the attribution is declared where whoever writes it sees it, and has the kind that its position asks for
pub record IsNamed (a : AttributionParts) : Type 0 where
  pub extensions : All IsName a.extensions
  pub nonterminals : (k : ℕ) (nonterminal : Nonterminal) → slice_get a.nonterminals k ≡ Some nonterminal
      → IsNamedNonterminal a k nonterminal
  pub attributes : All (IsNamedAttribute a) a.attributes
  pub occurrences : All (IsNamedOccurrence a) a.occurrences
  pub productions : All (IsNamedProduction a) a.productions
