-- What the tests of completeness ask, and when each refusal is true: its rule fails there, and those before it hold.
use Rattle.std.specs.Prelude.{◌≡◌, ◌≢◌, ℕ, Option, Some, IfSome}
use Rattle.wb_flow_theory.specs.Vertices.{Step, made, forward, top_synthesized, inherited}
use Rattle.wb_flow_theory.specs.Occurrences.{Occurs}
use Rattle.wb_flow_theory.specs.Rules.{Forwards, HasRule}
use Rattle.wb_flow_theory.specs.WellDefined.{DefinesTop, DefinesBelow, ReadNeeds}
use Rattle.wb_flow_theory.specs.Modular.{IsProduction, EachProduction, InheritsNothing, MustForward, ForwardsAsExtension}
use Rattle.wb_flow.specs.declared.refusal.AttributeRefusal.{AttributeRefusal}
use Rattle.wb_flow.specs.declared.refusal.AttributeRefusal.TheVariants as r
use Rattle.wb_flow.specs.declared.vertex.Vertex.{Vertex}
use Rattle.wb_flow.specs.Vertices.{vertex_of}
use Rattle.wb_syntax_resolved.specs.declared.attributes.Direction.TheVariants.{Synthesized, Inherited}
use Rattle.wb_syntax_resolved.specs.declared.attribution.AttributionParts.{AttributionParts}
use Rattle.wb_syntax_resolved.specs.declared.production.Production.{Production}

-- a start inherits nothing, an extension's productions on those of the host's nonterminals that aren't closed forward, and each attribute
-- that is needed in a production is defined there
pub record CompleteOk (a : AttributionParts) (start extension : Option ℕ) : Type 0 where
  pub start_inherits : IfSome start (InheritsNothing a)
  pub forwards : IfSome extension (ForwardsAsExtension a)
  pub top : EachProduction a (DefinesTop a)
  pub below : EachProduction a (DefinesBelow a)

-- the start has this inherited attribute
pub record StartHas (a : AttributionParts) (start : Option ℕ) (attribute : ℕ) : Type 0 where
  pub nonterminal : ℕ
  pub is_start : start ≡ Some nonterminal
  pub occurs : Occurs a Inherited attribute nonterminal

-- a start inherits nothing, and this production of the extension is on a nonterminal of the host that isn't closed and doesn't forward
pub record LacksForward (a : AttributionParts) (start extension : Option ℕ) (number : ℕ) : Type 0 where
  pub start_inherits : IfSome start (InheritsNothing a)
  pub owner : ℕ
  pub is_extension : extension ≡ Some owner
  pub production : Production
  pub there : IsProduction a number production
  pub must_forward : MustForward a owner production
  pub lacks : ¬ Forwards production

-- the production has no equation for this synthesized attribute of its left side, and doesn't forward
pub record LacksTop (a : AttributionParts) (production : Production) (attribute : ℕ) : Type 0 where
  pub occurs : Occurs a Synthesized attribute production.left
  pub lacks : ¬ HasRule production (top_synthesized attribute)
  pub no_forward : ¬ Forwards production

-- the rules before hold, and this production lacks an equation for this synthesized attribute
pub record LacksEquation (a : AttributionParts) (start extension : Option ℕ) (number attribute : ℕ) : Type 0 where
  pub start_inherits : IfSome start (InheritsNothing a)
  pub forwards : IfSome extension (ForwardsAsExtension a)
  pub production : Production
  pub there : IsProduction a number production
  pub lacks : LacksTop a production attribute

-- the vertex is an inherited attribute one step down, but not of the forwarded tree, that has no equation though an attribute is read there
-- whose flow type has it
pub record LacksBelow (a : AttributionParts) (production : Production) (vertex : Vertex) : Type 0 where
  pub step : Step
  pub inherited_one : ℕ
  pub names : vertex_of a vertex ≡ inherited step inherited_one
  pub needs : ReadNeeds a production step inherited_one
  pub lacks : ¬ HasRule production (inherited step inherited_one)
  pub other : step ≢ made forward

-- the rules before hold, and this production lacks an equation for this inherited attribute
pub record LacksInherited (a : AttributionParts) (start extension : Option ℕ) (number : ℕ) (vertex : Vertex) : Type 0 where
  pub start_inherits : IfSome start (InheritsNothing a)
  pub forwards : IfSome extension (ForwardsAsExtension a)
  pub top : EachProduction a (DefinesTop a)
  pub production : Production
  pub there : IsProduction a number production
  pub lacks : LacksBelow a production vertex

-- the refusal is one of these tests, and true
abbrev pub IsTrueCompletenessRefusal : AttributionParts → Option ℕ → Option ℕ → AttributeRefusal → Type 0
IsTrueCompletenessRefusal a start extension (r.StartInherits attribute) = StartHas a start attribute
IsTrueCompletenessRefusal a start extension (r.NoForward production) = LacksForward a start extension production
IsTrueCompletenessRefusal a start extension (r.NoEquation production attribute) = LacksEquation a start extension production attribute
IsTrueCompletenessRefusal a start extension (r.NoInherited production vertex) = LacksInherited a start extension production vertex
IsTrueCompletenessRefusal a start extension (r.NoMemory error) = Unit {0}
IsTrueCompletenessRefusal a start extension other = ⊥
