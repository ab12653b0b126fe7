-- When attributes are those of a certified host with certified extensions.
use Rattle.std.specs.Prelude.{◌≡◌, List, map}
use Rattle.wb_base.specs.Grammar.{GrammarView}
use Rattle.wb_compose.specs.Attributes.{attributes_of}
use Rattle.wb_compose.specs.AttributeLaws.{AreUnitedAttributes}
use Rattle.wb_compose.specs.Joined.{AreCertifiedApart, Extended}
use Rattle.wb_compose.specs.Written.{written_in}
use Rattle.wb_scan_theory.specs.Shown.{AgreesWith}
use Rattle.wb_operations.specs.Operations.{OperationSignature}
use Rattle.wb_syntax_resolved.specs.declared.attribution.AttributionParts.{AttributionParts}
use Rattle.wb_syntax_resolved.specs.declared.resolved.ResolvedParts.{ResolvedParts}
use Rattle.wb_compose_theory_grammar.specs.UnitedWorlds.{united}
use Rattle.wb_compose_theory_language.specs.Written.{pieces_of}

-- with the grammars that the host has, by itself and with each extension, all are certified, each extension with the host alone; these are
-- their attributes, which are well defined as a host's are, and which agree with the grammar of the union
pub record IsOfUnion (host : ResolvedParts) (operations : List OperationSignature) (extensions : List ResolvedParts)
    (a : AttributionParts) : Type 0 where
  pub grammar : GrammarView
  pub extended : List Extended
  pub extensions_are : map (λ (e : Extended). e.resolved) extended ≡ extensions
  pub certified : AreCertifiedApart host grammar operations extended
  pub are : a ≡ attributes_of host grammar extended
  pub of_union : AreUnitedAttributes host grammar operations extended
  pub agrees : AgreesWith a.signatures (united grammar host.extensible (pieces_of (written_in grammar extended)))
