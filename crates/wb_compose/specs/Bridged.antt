-- A certified host and an extension whose names are right, and which keeps the rules on bridges: an extension that is certified, and one that
-- is refused for its lookaheads.
use Rattle.std.specs.Prelude.{◌≡◌, List, Some}
use Rattle.wb_base.specs.Grammar.{GrammarView}
use Rattle.wb_certify.specs.Kept.{Extends}
use Rattle.wb_certify.specs.Hosts.{IsCertifiedValue}
use Rattle.wb_certify.specs.determinism_refusal.DeterminismRefusal.{DeterminismRefusal}
use Rattle.wb_certify.specs.determinism_refusal.DeterminismRefusal.TheVariants as d
use Rattle.wb_grammar_theory.specs.Shape.{IsReduced}
use Rattle.wb_marking.specs.Bridges.{AreBridges}
use Rattle.wb_operations.specs.Operations.{OperationSignature}
use Rattle.wb_syntax_resolved.specs.declared.resolved.ResolvedParts.{ResolvedParts}
use Rattle.wb_syntax_resolved.specs.Resolved.{IsResolved}

-- both are resolved and have these grammars; the host is certified, and r is the host with some extension whose names are right
pub record AreResolvedBoth (host r : ResolvedParts) (host_grammar grammar : GrammarView) (operations : List OperationSignature) :
    Type 0 where
  pub host_resolved : IsResolved host
  pub resolved : IsResolved r
  pub host_start : host.grammar ≡ Some host_grammar
  pub start : r.grammar ≡ Some grammar
  pub host_certified : IsCertifiedValue host operations
  pub extends : Extends host r

-- besides, the extension keeps the rules on bridges, and its grammar is reduced
pub record AreBridged (host r : ResolvedParts) (host_grammar grammar : GrammarView) (operations : List OperationSignature) :
    Type 0 where
  pub both : AreResolvedBoth host r host_grammar grammar operations
  pub bridges : AreBridges r grammar
  pub reduced : IsReduced grammar

-- the refusal is by the lookahead rule, for a lookahead that is added at a kernel of the host, or by the envelope rule
abbrev pub IsRuleRefusal : DeterminismRefusal → Type 0
IsRuleRefusal (d.Lookahead prefix item t) = Unit {0}
IsRuleRefusal (d.Envelope prefix fault) = Unit {0}
IsRuleRefusal other = ⊥
