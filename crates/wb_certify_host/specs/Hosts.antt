-- When a resolved host is certified.
use Rattle.std.specs.Prelude.{◌≡◌, ℕ, Some, None, List, []}
use Rattle.wb_flow_theory.specs.Modular.{AreWellDefinedAttributes}
use Rattle.wb_base.specs.Grammar.{GrammarView}
use Rattle.wb_determinism_host.specs.Hosts.{IsDeterministicHost, AreHostParts}
use Rattle.wb_determinism_host.specs.declared.parts.HostParts.{HostParts}
use Rattle.wb_names.specs.Resolving.{ResolvesHost}
use Rattle.wb_operations.specs.Operations.{OperationSignature}
use Rattle.wb_syntax_resolved.specs.Resolved.{IsResolved}
use Rattle.wb_syntax_resolved.specs.declared.resolved.ResolvedParts.{ResolvedParts}
use Rattle.wb_syntax.specs.SpecText.{IsSpecText, SpecView}
use Rattle.wb_types.specs.Rules.{KindsOk}

-- some text is the specification
abbrev pub IsWritten : SpecView → Type 0
IsWritten spec = (bytes : List ℕ) × IsSpecText bytes spec

-- the value is that of a specification which some text is: a host's, whose names are right
pub record IsOfText (r : ResolvedParts) : Type 0 where
  pub spec : SpecView
  pub written : IsWritten spec
  pub names : ResolvesHost spec r

-- over operations of these signatures a resolved host is certified: it is the value of some text, a host alone, each expression is of its
-- kind, there is a start, and so this grammar, the host is deterministic, and its attributes are well defined
pub record IsCertifiedValue (r : ResolvedParts) (operations : List OperationSignature) : Type 0 where
  pub of_text : IsOfText r
  pub alone : r.attributes.extensions ≡ []
  pub kinds : KindsOk r.attributes operations
  pub grammar : GrammarView
  pub start : r.grammar ≡ Some grammar
  pub deterministic : IsDeterministicHost r grammar
  pub attributes : AreWellDefinedAttributes r.attributes (Some grammar.start) None

-- a host by numbers, what is made of its grammar with holes, and the signatures of operations
pub record CertifiedView : Type 0 where
  pub resolved : ResolvedParts
  pub parts : HostParts
  pub operations : List OperationSignature

-- the host is one by numbers, is certified over these operations, and the parts are those of its grammar
pub record IsCertified (h : CertifiedView) : Type 0 where
  pub whole : IsResolved h.resolved
  pub certified : IsCertifiedValue h.resolved h.operations
  pub parts : (g : GrammarView) → h.resolved.grammar ≡ Some g → AreHostParts h.resolved g h.parts

-- the specification is a certified host over operations of these signatures: its names are right, and the value that it stands for is
-- certified
pub record IsCertifiedHost (spec : SpecView) (operations : List OperationSignature) : Type 0 where
  pub resolved : ResolvedParts
  pub names : ResolvesHost spec resolved
  pub certified : IsCertifiedValue resolved operations
