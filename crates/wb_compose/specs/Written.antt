-- A certified host and certified extensions, as they are written.
use Rattle.std.specs.Prelude.{ℕ, List, [], length, map, slice_index_or}
use Rattle.wb_base.specs.Grammar.{GrammarView}
use Rattle.wb_certify.specs.Lexicons.{lexicon_beside}
use Rattle.wb_syntax_resolved.specs.declared.resolved.ResolvedParts.{ResolvedParts}
use Rattle.wb_compose_theory_language.specs.Written.{WrittenPiece}
use Rattle.wb_certify.specs.Pieces.{piece_in}
use Rattle.wb_compose.specs.Joined.{Extended}

-- the name of the one extension of a host with one
abbrev pub name_in : ResolvedParts → List ℕ
name_in r = slice_index_or r.attributes.extensions 0 []

-- an extension with its host, as it is written: the host by itself has the first grammar, and with the extension the other
abbrev pub written_with : GrammarView → ResolvedParts → GrammarView → WrittenPiece
written_with host r g = record { piece = piece_in r g; name = name_in r; lexicon = lexicon_beside r g (length host.productions) }

-- all extensions of a host with this grammar, as they are written
abbrev pub written_in : GrammarView → List Extended → List WrittenPiece
written_in host extensions = map (λ (e : Extended). written_with host e.resolved e.grammar) extensions
