-- When the refusal of an equation for a forwarded tree is true.
use Rattle.std.specs.Prelude.{◌≢◌, ℕ}
use Rattle.wb_flow_theory.specs.Vertices.{forward, made, top_inherited, inherited}
use Rattle.wb_flow_theory.specs.Occurrences.{ForwardNeeds}
use Rattle.wb_flow_theory.specs.Rules.{HasRule}
use Rattle.wb_flow_theory.specs.Flow.{Reaches}
use Rattle.wb_flow_theory.specs.Modular.{IsProduction, IsBridging}
use Rattle.wb_flow.specs.declared.refusal.AttributeRefusal.{AttributeRefusal}
use Rattle.wb_flow.specs.declared.refusal.AttributeRefusal.TheVariants as r
use Rattle.wb_syntax_resolved.specs.declared.attribution.AttributionParts.{AttributionParts}
use Rattle.wb_syntax_resolved.specs.declared.production.Production.{Production}

-- the production has an equation for this inherited attribute of the forwarded tree, and it reaches another inherited attribute of the top
-- that isn't in the flow type of the forward
pub record ReadsOutside (a : AttributionParts) (production : Production) (attribute inherited_one : ℕ) : Type 0 where
  pub rule : HasRule production (inherited (made forward) attribute)
  pub reaches : Reaches a production (inherited (made forward) attribute) (top_inherited inherited_one)
  pub lacks : ¬ ForwardNeeds a production.left inherited_one
  pub other : inherited_one ≢ attribute

-- the production of this number is the extension's on a nonterminal of the host, and has such an equation
pub record HasForwardRead (a : AttributionParts) (extension number attribute inherited_one : ℕ) : Type 0 where
  pub production : Production
  pub there : IsProduction a number production
  pub bridging : IsBridging a extension production
  pub reads : ReadsOutside a production attribute inherited_one

-- the refusal is of this test, and true; out of memory says nothing
abbrev pub IsTrueForwardRefusal : AttributionParts → ℕ → AttributeRefusal → Type 0
IsTrueForwardRefusal a extension (r.ForwardReads production attribute inherited_one) =
    HasForwardRead a extension production attribute inherited_one
IsTrueForwardRefusal a extension (r.NoMemory error) = Unit {0}
IsTrueForwardRefusal a extension other = ⊥
