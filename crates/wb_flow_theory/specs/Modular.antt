-- When the attributes of a host are well defined, and those of an extension with its host.
use Rattle.std.specs.Prelude.{◌≡◌, ◌⊎◌, ℕ, Option, Some, IfSome, slice_get, option_map}
use Rattle.wb_syntax_resolved.specs.declared.attributes.Direction.TheVariants.{Synthesized, Inherited}
use Rattle.wb_syntax_resolved.specs.declared.attributes.Nonterminal.{Nonterminal}
use Rattle.wb_syntax_resolved.specs.declared.attribution.AttributionParts.{AttributionParts}
use Rattle.wb_syntax_resolved.specs.declared.production.Production.{Production}
use Rattle.wb_syntax_resolved.specs.Owned.{IsClosed}
use Rattle.wb_flow_theory.specs.Vertices.{forward, made, top_inherited, inherited}
use Rattle.wb_flow_theory.specs.Occurrences.{Occurs, Needs, ForwardNeeds}
use Rattle.wb_flow_theory.specs.Rules.{Forwards, HasRule}
use Rattle.wb_flow_theory.specs.Flow.{Reaches}
use Rattle.wb_flow_theory.specs.WellDefined.{IsWellDefinedProduction}

-- there is a production of this number
abbrev pub IsProduction : AttributionParts → ℕ → Production → Type 0
IsProduction a number production = slice_get a.productions number ≡ Some production

-- of each production it holds
abbrev pub EachProduction : AttributionParts → (Production → Type 0) → Type 0
EachProduction a P = (number : ℕ) (production : Production) → IsProduction a number production → P production

-- the flow type of each synthesized attribute on a nonterminal has all that the flow type of the nonterminal's forward has
abbrev pub HoldForwardNeeds : AttributionParts → Type 0
HoldForwardNeeds a = (m x i : ℕ) → Occurs a Synthesized x m → ForwardNeeds a m i → Needs a x m i

-- the start has no inherited attribute
abbrev pub InheritsNothing : AttributionParts → ℕ → Type 0
InheritsNothing a start = (i : ℕ) → ¬ Occurs a Inherited i start

-- the nonterminal is the host's
abbrev pub IsHosts : AttributionParts → ℕ → Type 0
IsHosts a m = option_map (λ (r : Nonterminal). r.owner) (slice_get a.nonterminals m) ≡ Some 0

-- the production is the extension's, on a nonterminal of the host
pub record IsBridging (a : AttributionParts) (extension : ℕ) (production : Production) : Type 0 where
  pub owner : production.owner ≡ extension
  pub left : IsHosts a production.left

-- the production is the extension's, on a nonterminal of the host that isn't closed
pub record MustForward (a : AttributionParts) (extension : ℕ) (production : Production) : Type 0 where
  pub bridging : IsBridging a extension production
  pub not_closed : ¬ IsClosed a production.left

-- a production of the extension on a nonterminal of the host that isn't closed forwards
abbrev pub ForwardsAsExtension : AttributionParts → ℕ → Type 0
ForwardsAsExtension a extension = EachProduction a (λ production. MustForward a extension production → Forwards production)

-- in a production of the extension on a nonterminal of the host, an equation for an inherited attribute of the forwarded tree reaches only
-- inherited attributes of the top that are in the flow type of the forward, or the attribute itself
abbrev pub ForwardEquationsReach : AttributionParts → ℕ → Type 0
ForwardEquationsReach a extension = EachProduction a (λ production. IsBridging a extension production → (i j : ℕ)
    → HasRule production (inherited (made forward) i) → Reaches a production (inherited (made forward) i) (top_inherited j)
    → ForwardNeeds a production.left j ⊎ (j ≡ i))

-- the attributes of a host, where no extension is given, or of the extension with its host are well defined: each production's are, flow
-- types hold those of forwards, a start inherits nothing, and the extension forwards and keeps to the forward's flow types
pub record AreWellDefinedAttributes (a : AttributionParts) (start extension : Option ℕ) : Type 0 where
  pub productions : EachProduction a (IsWellDefinedProduction a)
  pub forward_needs : HoldForwardNeeds a
  pub start_inherits : IfSome start (InheritsNothing a)
  pub forwards : IfSome extension (ForwardsAsExtension a)
  pub forward_equations : IfSome extension (ForwardEquationsReach a)
