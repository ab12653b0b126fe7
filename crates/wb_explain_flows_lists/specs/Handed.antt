-- What is said of inherited attributes that aren't handed down.
use Rattle.std.specs.Prelude.{◌≡◌, ◌++◌, ℕ, List, Some, Contains, slice_get}
use lib.Chars.{codes}
use Rattle.wb_complete.specs.Refusals.{LacksBelow}
use Rattle.wb_flow.specs.Rules.{attribute_at}
use Rattle.wb_flow_theory.specs.Modular.{IsProduction}
use Rattle.wb_syntax_expressions.specs.declared.node.Node.TheVariants as n
use Rattle.wb_syntax_resolved.specs.declared.attribution.AttributionParts.{AttributionParts}
use Rattle.wb_syntax_resolved.specs.declared.equation.Equation.{Equation}
use Rattle.wb_syntax_resolved.specs.declared.equation.Place.{Place}
use Rattle.wb_syntax_resolved.specs.declared.production.Forward.{Forward}
use Rattle.wb_syntax_resolved.specs.declared.production.Local.{Local}
use Rattle.wb_syntax_resolved.specs.declared.production.Production.{Production}
use Rattle.wb_syntax_resolved.specs.Expression.{Node}
use Rattle.wb_explain_flows_lists.specs.declared.handed.Lacking.{Lacking}
use Rattle.wb_explain_flows_lists.specs.declared.rule.Rule.{Rule}
use Rattle.wb_explain_flows_lists.specs.Lists.{Lists}
use Rattle.wb_explain_flows_lists.specs.Names.{own_production, own_vertex}

-- the place is that of an equation of the production, of a local or of the forward, whose expression has these nodes
pub data IsRuleAt (p : Production) (at : Rule) (nodes : List Node) : Type 0 where
  by_equation : (e : Equation) → Contains p.equations e → at.owner ≡ e.owner → at.offset ≡ e.offset → nodes ≡ e.nodes → IsRuleAt p at nodes
  by_local : (k : ℕ) (l : Local) → slice_get p.locals k ≡ Some l → at.owner ≡ l.owner → at.offset ≡ l.offset → nodes ≡ l.nodes
      → IsRuleAt p at nodes
  by_forward : (f : Forward) → p.forward ≡ Some f → at.owner ≡ p.owner → at.offset ≡ f.offset → nodes ≡ f.nodes → IsRuleAt p at nodes

-- the equation at this place reads the attribute of the child or local
pub record HasReadAt (p : Production) (at : Rule) (label : Place) (attribute : ℕ) : Type 0 where
  pub nodes : List Node
  pub rule : IsRuleAt p at nodes
  pub reads : Contains nodes (n.Read label attribute)

-- the production has no equation for an inherited attribute of a child or local that is needed, and an equation at this place reads an
-- attribute there that needs it
pub record IsLacking (a : AttributionParts) (l : Lacking) : Type 0 where
  pub production : Production
  pub there : IsProduction a l.production production
  pub lacks : LacksBelow a production l.vertex
  pub label : Place
  pub attribute : ℕ
  pub reader : l.reader ≡ attribute_at label attribute
  pub read : HasReadAt production l.at label attribute

-- an aspect of the production with an equation for it, whose right side is left out
abbrev pub handed_text : AttributionParts → Lacking → List ℕ
handed_text a l =
    codes "    aspect " ++ own_production (slice_get a.productions l.production) ++ codes " { "
    ++ own_vertex a (slice_get a.productions l.production) l.vertex ++ codes " = ..; }"

-- a line with that aspect
abbrev pub IsHandedText : AttributionParts → Lacking → List ℕ → Type 0
IsHandedText a l line = (more : List ℕ) × (line ≡ handed_text a l ++ more)

-- each of them is so
abbrev pub AreLacking : AttributionParts → List Lacking → Type 0
AreLacking a found = (l : Lacking) → Contains found l → IsLacking a l

-- such attributes are listed
pub record SaysHanded (a : AttributionParts) (old new : List ℕ) : Type 0 where
  pub found : List Lacking
  pub each : AreLacking a found
  pub lists : Lists (IsHandedText a) found old new
