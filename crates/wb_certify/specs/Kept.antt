-- What is kept of a certified extension.
use Rattle.std.specs.Prelude.{◌≡◌, List, Some}
use Rattle.wb_base.specs.Grammar.{GrammarView}
use Rattle.wb_certify_host.specs.Hosts.{IsCertifiedValue, IsWritten}
use Rattle.wb_certify_host.specs.Resolving.{ResolvesExtension}
use Rattle.wb_operations.specs.Operations.{OperationSignature}
use Rattle.wb_syntax_resolved.specs.Resolved.{IsResolved}
use Rattle.wb_syntax_resolved.specs.declared.resolved.ResolvedParts.{ResolvedParts}
use Rattle.wb_syntax.specs.SpecText.{SpecView}
use Rattle.wb_certify.specs.Extensions.{IsCertifiedBeside}

-- a host and the host with an extension, both by numbers, and signatures of operations
pub record ExtensionView : Type 0 where
  pub host : ResolvedParts
  pub resolved : ResolvedParts
  pub operations : List OperationSignature

-- the value is that of the host with some extension, whose specification some text is and whose names are right
pub record Extends (host r : ResolvedParts) : Type 0 where
  pub spec : SpecView
  pub written : IsWritten spec
  pub names : ResolvesExtension host spec r

-- the host is certified, and the other is the host with some extension, which is certified beside it
pub record IsKept (e : ExtensionView) : Type 0 where
  pub host_certified : IsCertifiedValue e.host e.operations
  pub extends : Extends e.host e.resolved
  pub certified : IsCertifiedBeside e.host e.resolved e.operations

-- both are resolved and have these grammars; the host is certified, and r is the host with some extension, which is certified beside it
pub record AreCertifiedBoth (host r : ResolvedParts) (host_grammar grammar : GrammarView) (operations : List OperationSignature) :
    Type 0 where
  pub host_resolved : IsResolved host
  pub resolved : IsResolved r
  pub host_start : host.grammar ≡ Some host_grammar
  pub start : r.grammar ≡ Some grammar
  pub host_certified : IsCertifiedValue host operations
  pub extends : Extends host r
  pub certified : IsCertifiedBeside host r operations
