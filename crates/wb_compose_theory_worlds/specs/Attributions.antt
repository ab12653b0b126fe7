-- The world of an attribution, in the attribution's numbers.
use Rattle.std.specs.Prelude.{◌≡◌, ◌↔◌, ℕ, Bool, true, false, ◌&&◌, nat_eq, List, [], ◌∷◌, Option, Some, None, length, option_map}
use Rattle.std.specs.Prelude.{slice_get}
use Rattle.wb_flow_theory.specs.Modular.{AreWellDefinedAttributes}
use Rattle.wb_flow_theory.specs.Rules.{target_vertex}
use Rattle.wb_flow_theory.specs.Vertices.{local, forward, Vertex, tree_of}
use Rattle.wb_flow_theory.specs.WellDefined.{IsWellDefinedProduction}
use Rattle.wb_base.specs.declared.symbol.Kind.TheVariants as kind
use Rattle.wb_eval_theory.specs.Rules.{same_vertex}
use Rattle.wb_syntax_resolved.specs.declared.attributes.Attribute.{Attribute}
use Rattle.wb_syntax_resolved.specs.declared.attributes.Direction.{Direction}
use Rattle.wb_syntax_resolved.specs.declared.attributes.Direction.TheVariants.{Synthesized, Inherited}
use Rattle.wb_syntax_resolved.specs.declared.attributes.Nonterminal.{Nonterminal}
use Rattle.wb_syntax_resolved.specs.declared.attributes.Occurrence.{Occurrence}
use Rattle.wb_syntax_resolved.specs.declared.attribution.AttributionParts.{AttributionParts}
use Rattle.wb_syntax_resolved.specs.declared.equation.Equation.{Equation}
use Rattle.wb_syntax_resolved.specs.declared.equation.Place.{Place}
use Rattle.wb_syntax_resolved.specs.declared.equation.Place.TheVariants as place
use Rattle.wb_syntax_resolved.specs.declared.production.ChildKind.{ChildKind}
use Rattle.wb_syntax_resolved.specs.declared.production.ChildKind.TheVariants as child_kind
use Rattle.wb_syntax_resolved.specs.declared.production.Forward.{Forward}
use Rattle.wb_syntax_resolved.specs.declared.production.Local.{Local}
use Rattle.wb_syntax_resolved.specs.declared.production.Production.{Production}
use Rattle.wb_syntax_resolved.specs.Expression.{Node}
use Rattle.wb_syntax_resolved.specs.Visible.{kind_at, place_owner}
use Rattle.wb_compose_theory_worlds.specs.Worlds.{Owner, host, extension, owner_of, World, plain, union}
use Rattle.wb_compose_theory_worlds.specs.Parts.{IsWellDefinedIn, IsWellDefinedPart, IsWellDefinedExtension, AreWellDefinedApart}

-- the owner of what may be there; of nothing, the host
abbrev pub owner_in : Option ℕ → Owner
owner_in None = host
owner_in (Some k) = owner_of k

-- two owners, and two directions, are one
abbrev pub same_owner : Owner → Owner → Bool
same_owner host host = true
same_owner (extension k) (extension l) = nat_eq k l
same_owner _ _ = false

abbrev pub same_direction : Direction → Direction → Bool
same_direction Synthesized Synthesized = true
same_direction Inherited Inherited = true
same_direction _ _ = false

abbrev pub goes_so : Direction → Option Attribute → Bool
goes_so d None = false
goes_so d (Some r) = same_direction d r.direction

-- the first occurrence of the attribute on the nonterminal
abbrev pub is_occurrence : ℕ → ℕ → Occurrence → Bool
is_occurrence m x r = nat_eq m r.nonterminal && nat_eq x r.attribute

abbrev pub occurrence_at : ℕ → ℕ → List Occurrence → Option Occurrence
occurrence_at m x [] = None
occurrence_at m x (r ∷ rest) = elim (is_occurrence m x r) [ true ↦ Some r | false ↦ occurrence_at m x rest ]

abbrev pub declared_by : Owner → Option Occurrence → Bool
declared_by o None = false
declared_by o (Some r) = same_owner o (owner_of r.owner)

abbrev pub needs_of : Option Occurrence → List ℕ
needs_of None = []
needs_of (Some r) = r.needs

abbrev pub forward_needs_of : Option Nonterminal → List ℕ
forward_needs_of None = []
forward_needs_of (Some r) = r.forward_needs

-- whether what may be a nonterminal is closed
abbrev pub closed_in : Option Nonterminal → Bool
closed_in None = false
closed_in (Some r) = r.closed

-- who makes what may be a production; one that isn't there is of an extension that isn't
abbrev pub maker_in : ℕ → Option Production → Owner
maker_in extensions None = extension extensions
maker_in extensions (Some r) = owner_of r.owner

-- what is on the left of what may be a production, and below it; a production that isn't there has the start on its left
abbrev pub left_in : ℕ → Option Production → ℕ
left_in start None = start
left_in start (Some r) = r.left

abbrev pub kind_in : Place → Option Production → Option ChildKind
kind_in at None = None
kind_in at (Some r) = kind_at r at

abbrev pub tree_in : Option ChildKind → Option ℕ
tree_in (Some (child_kind.Value (kind.Tree m))) = Some m
tree_in other = None

abbrev pub place_owner_in : Place → Option Production → Owner
place_owner_in at None = host
place_owner_in at (Some r) = owner_of (place_owner r at)

-- a rule and whose it is
abbrev pub Written : Type 0
Written = ℕ × List Node

-- the first equation for the vertex
abbrev pub equation_at : Vertex → List Equation → Option Written
equation_at v [] = None
equation_at v (e ∷ rest) = elim (same_vertex v (target_vertex e.target)) [ true ↦ Some (e.owner, e.nodes) | false ↦ equation_at v rest ]

abbrev pub local_rule : Option Local → Option Written
local_rule None = None
local_rule (Some l) = Some (l.owner, l.nodes)

abbrev pub forward_rule : ℕ → Option Forward → Option Written
forward_rule owner None = None
forward_rule owner (Some f) = Some (owner, f.nodes)

-- the rule of a production for the vertex
abbrev pub rule_at : Production → Vertex → Option Written
rule_at production (tree_of (local k)) = local_rule (slice_get production.locals k)
rule_at production (tree_of forward) = forward_rule production.owner production.forward
rule_at production v = equation_at v production.equations

abbrev pub rule_in : Vertex → Option Production → Option Written
rule_in v None = None
rule_in v (Some r) = rule_at r v

abbrev pub written_by : Owner → Option Written → Option (List Node)
written_by o None = None
written_by o (Some w) = elim (same_owner o (owner_of w.0)) [ true ↦ Some w.1 | false ↦ None ]

abbrev pub world_of : AttributionParts → ℕ → World
world_of a start = record {
  start = start;
  nonterminal_owner = λ m. owner_in (option_map (λ (r : Nonterminal). r.owner) (slice_get a.nonterminals m));
  closed = λ m. closed_in (slice_get a.nonterminals m);
  attribute_owner = λ x. owner_in (option_map (λ (r : Attribute). r.owner) (slice_get a.attributes x));
  declares = λ d o m x. goes_so d (slice_get a.attributes x) && declared_by o (occurrence_at m x a.occurrences);
  needs = λ m x. needs_of (occurrence_at m x a.occurrences);
  forward_needs = λ m. forward_needs_of (slice_get a.nonterminals m);
  production_owner = λ p. maker_in (length a.extensions) (slice_get a.productions p);
  left = λ p. left_in start (slice_get a.productions p);
  child_at = λ p k. tree_in (kind_in (place.Child k) (slice_get a.productions p));
  local_at = λ p x. tree_in (kind_in (place.Local x) (slice_get a.productions p));
  local_owner = λ p x. place_owner_in (place.Local x) (slice_get a.productions p);
  writes = λ o p v. written_by o (rule_in v (slice_get a.productions p));
}

-- a production is well defined in the union of the host and all extensions exactly if it is in the attribution
abbrev pub IsUnion : AttributionParts → ℕ → Type 0
IsUnion a start = (p : ℕ) (production : Production) → slice_get a.productions p ≡ Some production
    → IsWellDefinedProduction a production ↔ IsWellDefinedIn (world_of a start) (union (length a.extensions)) p

-- the attribution's attributes are well defined exactly if those of the union are
abbrev pub AreUnion : AttributionParts → ℕ → Type 0
AreUnion a start = AreWellDefinedAttributes a (Some start) None ↔ IsWellDefinedPart (world_of a start) (union (length a.extensions))

-- where the host is well defined, and each extension is with the host alone, the attribution is
abbrev pub IsComposed : AttributionParts → ℕ → Type 0
IsComposed a start = AreWellDefinedApart (world_of a start) (length a.extensions) → AreWellDefinedAttributes a (Some start) None

-- without extensions the attribution's attributes are well defined exactly if those of the host are
abbrev pub IsHostTested : AttributionParts → ℕ → Type 0
IsHostTested a start = length a.extensions ≡ 0 → AreWellDefinedAttributes a (Some start) None ↔ IsWellDefinedPart (world_of a start) plain

-- with one extension they are, as its own with the host, exactly if those of the extension are
abbrev pub IsExtensionTested : AttributionParts → ℕ → Type 0
IsExtensionTested a start = length a.extensions ≡ 1
    → AreWellDefinedAttributes a (Some start) (Some 1) ↔ IsWellDefinedExtension (world_of a start) 0
