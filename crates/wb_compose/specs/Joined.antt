-- A certified host and an extension that is certified with it, as what unions are made of.
use Rattle.std.specs.Prelude.{◌≡◌, List, Some, All, map}
use Rattle.wb_base.specs.Grammar.{GrammarView}
use Rattle.wb_certify.specs.Kept.{AreCertifiedBoth}
use Rattle.wb_certify.specs.Hosts.{IsCertifiedValue}
use Rattle.wb_certify.specs.Pieces.{piece_in}
use Rattle.wb_operations.specs.Operations.{OperationSignature}
use Rattle.wb_syntax_resolved.specs.declared.resolved.ResolvedParts.{ResolvedParts}
use Rattle.wb_syntax_resolved.specs.Resolved.{IsResolved}
use Rattle.wb_compose_theory_grammar.specs.Pieces.{Piece}

-- a host with some extension, by numbers, and its grammar
pub record Extended : Type 0 where
  pub resolved : ResolvedParts
  pub grammar : GrammarView

-- the host is resolved, has this grammar and is certified, and so is each extension, with the host alone
pub record AreCertifiedApart (host : ResolvedParts) (host_grammar : GrammarView) (operations : List OperationSignature)
    (extensions : List Extended) : Type 0 where
  pub host_resolved : IsResolved host
  pub host_start : host.grammar ≡ Some host_grammar
  pub host_certified : IsCertifiedValue host operations
  pub each : All (λ (e : Extended). AreCertifiedBoth host e.resolved host_grammar e.grammar operations) extensions

-- the extensions with their markers
abbrev pub pieces_in : List Extended → List Piece
pieces_in extensions = map (λ (e : Extended). piece_in e.resolved e.grammar) extensions
