-- A host by itself and an extension whose names are right, which keeps the rules on bridges, by numbers.
use Rattle.std.specs.Prelude.{◌≡◌, ℕ, Bool, [], Some, slice_get}
use Rattle.wb_base.specs.Grammar.{GrammarView}
use Rattle.wb_compose_theory_grammar.specs.Bridges.{piece_of}
use Rattle.wb_compose_theory_grammar.specs.Pieces.{Piece}
use Rattle.wb_determinism.specs.Images.{is_marker_row}
use Rattle.wb_marking.specs.Bridges.{AreBridges}
use Rattle.wb_names.specs.Resolving.{ResolvesExtension}
use Rattle.wb_syntax_resolved.specs.declared.resolved.ResolvedParts.{ResolvedParts}
use Rattle.wb_syntax_resolved.specs.Resolved.{IsResolved}
use Rattle.wb_syntax.specs.SpecText.{SpecView}

-- which terminals are markers
abbrev pub is_marker_in : ResolvedParts → ℕ → Bool
is_marker_in r t = is_marker_row (slice_get r.terminals t)

-- the extension with this grammar, and with the markers of r
abbrev pub piece_in : ResolvedParts → GrammarView → Piece
piece_in r g = piece_of g (is_marker_in r)

-- both are resolved and have these grammars; the host has no extension, r is the host with some extension whose names are right, and the
-- extension keeps the rules on bridges
pub record IsExtendedBy (host r : ResolvedParts) (h g : GrammarView) : Type 0 where
  pub host_resolved : IsResolved host
  pub resolved : IsResolved r
  pub host_start : host.grammar ≡ Some h
  pub start : r.grammar ≡ Some g
  pub alone : host.attributes.extensions ≡ []
  pub spec : SpecView
  pub names : ResolvesExtension host spec r
  pub bridges : AreBridges r g
