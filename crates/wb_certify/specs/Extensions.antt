-- When an extension is certified with its host alone, whatever other extensions there are.
use Rattle.std.specs.Prelude.{◌≡◌, ℕ, List, [], ◌∷◌, Some}
use Rattle.wb_flow_theory.specs.Modular.{AreWellDefinedAttributes}
use Rattle.wb_base.specs.Grammar.{GrammarView}
use Rattle.wb_certify_host.specs.Hosts.{IsCertifiedValue}
use Rattle.wb_determinism_beside.specs.DeterministicExtensions.{IsDeterministicExtension}
use Rattle.wb_marking_holes.specs.Holes.{with_holes_of}
use Rattle.wb_marking.specs.Bridges.{AreBridges}
use Rattle.wb_marking.specs.Clashes.{HasNoMarkerClash}
use Rattle.wb_certify_host.specs.Resolving.{ResolvesExtension}
use Rattle.wb_operations.specs.Operations.{OperationSignature}
use Rattle.wb_syntax_resolved.specs.declared.resolved.ResolvedParts.{ResolvedParts}
use Rattle.wb_syntax.specs.SpecText.{SpecView}
use Rattle.wb_types.specs.Rules.{KindsOk}

-- the specification is that of a host with one extension, which has this name
abbrev pub IsOneExtension : ResolvedParts → List ℕ → Type 0
IsOneExtension r name = r.attributes.extensions ≡ name ∷ []

-- the markers of the extension keep their rules: they begin its bridges, and can be told apart from what else is scanned
pub record AreMarkersKept (r : ResolvedParts) (grammar : GrammarView) : Type 0 where
  pub bridges : AreBridges r grammar
  pub clashes : HasNoMarkerClash r

-- with these grammars of the host and of the host with the extension, the extension is deterministic beside its host with holes, and its
-- markers keep their rules
pub record IsDeterministicBeside (host r : ResolvedParts) (host_grammar grammar : GrammarView) : Type 0 where
  pub markers : AreMarkersKept r grammar
  pub deterministic : IsDeterministicExtension r grammar (with_holes_of host_grammar host.extensible)

-- over operations of these signatures an extension is certified beside a host, where r is the host with this one extension: each expression
-- is of its kind, both have a start, markers keep their rules, the extension is deterministic beside the host, and attributes are well
-- defined as an extension's
pub record IsCertifiedBeside (host r : ResolvedParts) (operations : List OperationSignature) : Type 0 where
  pub name : List ℕ
  pub one : IsOneExtension r name
  pub kinds : KindsOk r.attributes operations
  pub host_grammar : GrammarView
  pub host_start : host.grammar ≡ Some host_grammar
  pub grammar : GrammarView
  pub start : r.grammar ≡ Some grammar
  pub deterministic : IsDeterministicBeside host r host_grammar grammar
  pub attributes : AreWellDefinedAttributes r.attributes (Some grammar.start) (Some 1)

-- the specification is an extension that is certified with this host over operations of these signatures: the host is certified, names are
-- right, and the extension is certified beside the host
pub record IsCertifiedExtension (host : ResolvedParts) (spec : SpecView) (operations : List OperationSignature) : Type 0 where
  pub host_certified : IsCertifiedValue host operations
  pub resolved : ResolvedParts
  pub names : ResolvesExtension host spec resolved
  pub certified : IsCertifiedBeside host resolved operations
