-- A host with extensions as they are lent, as what unions are made of.
use Rattle.std.specs.Prelude.{◌==◌, ℕ, Bool, true, false, IsTrue, List, Option, Some, None, All, if◌then◌else◌, length, map, slice_get}
use Rattle.wb_base.specs.Grammar.{GrammarView}
use Rattle.wb_determinism_contexts.specs.Considered.{LexiconView}
use Rattle.wb_syntax_resolved.specs.declared.terminal.Preference.{Preference}
use Rattle.wb_syntax_resolved.specs.declared.terminal.Terminal.{Terminal}
use Rattle.wb_syntax_resolved.specs.declared.terminal.TerminalKind.{TerminalKind}
use Rattle.wb_syntax_resolved.specs.declared.terminal.TerminalKind.TheVariants.{Plain, Ignore, Marking}
use Rattle.wb_compose_theory_grammar.specs.Bridges.{BeginsBridge, piece_of}
use Rattle.wb_compose_theory_grammar.specs.Certificates.{AreCertified}
use Rattle.wb_compose_theory_language.specs.Apart.{AreWrittenApart}
use Rattle.wb_compose_theory_language.specs.Written.{WrittenPiece, pieces_of}
use Rattle.wb_compose_language.specs.declared.addition.Addition.{Addition}
use Rattle.wb_compose_language.specs.declared.addition.Lent.{Lent}

-- markers alone are marking, and layout alone is skipped
abbrev pub is_marking : TerminalKind → Bool
is_marking Plain = false
is_marking Ignore = false
is_marking Marking = true

abbrev pub is_layout : TerminalKind → Bool
is_layout Plain = false
is_layout Ignore = true
is_layout Marking = false

-- the terminal, where there is one, is a marker
abbrev pub is_marker_row : Option Terminal → Bool
is_marker_row None = false
is_marker_row (Some t) = is_marking t.kind

-- layout of the host
abbrev pub is_host_layout : Terminal → Bool
is_host_layout t = if t.owner == 0 then (is_layout t.kind) else false

-- layout of an extension
abbrev pub is_own_layout : Terminal → Bool
is_own_layout t = if t.owner == 0 then false else (is_layout t.kind)

-- what is scanned of a host's grammar with these rows and preferences: all layout is the host's
abbrev pub lexicon_with : GrammarView → List Terminal → List Preference → LexiconView
lexicon_with g terminals preferences = record {
  expressions = map (λ (t : Terminal). t.pattern) terminals;
  scanned = g.terminals;
  layout = map (λ (t : Terminal). is_layout t.kind) terminals;
  own_layout = map (λ (t : Terminal). false) terminals;
  own_productions = (0, 0);
  preferences = map (λ (p : Preference). (p.first, p.second)) preferences;
}

-- what is scanned of a host with an extension, whose productions are those from this number on
abbrev pub lexicon_from : ℕ → GrammarView → List Terminal → List Preference → LexiconView
lexicon_from first g terminals preferences = record {
  expressions = map (λ (t : Terminal). t.pattern) terminals;
  scanned = g.terminals;
  layout = map is_host_layout terminals;
  own_layout = map is_own_layout terminals;
  own_productions = (first, length g.productions);
  preferences = map (λ (p : Preference). (p.first, p.second)) preferences;
}

-- which terminals of an extension are markers
abbrev pub is_marker_in : Addition → ℕ → Bool
is_marker_in x t = is_marker_row (slice_get x.terminals.now t)

-- an extension as it is written, where the host's grammar has so many productions
abbrev pub written_in : ℕ → Addition → WrittenPiece
written_in first x = record {
  piece = piece_of x.grammar.now (is_marker_in x);
  name = x.name.now;
  lexicon = lexicon_from first x.grammar.now x.terminals.now x.preferences.now;
}

-- what is scanned of the host's grammar, and an extension as it is written beside it
abbrev pub own_in : Lent → LexiconView
own_in lent = lexicon_with lent.grammar.now lent.terminals.now lent.preferences.now

abbrev pub written_beside : Lent → Addition → WrittenPiece
written_beside lent x = written_in (length lent.grammar.now.productions) x

-- the extensions
abbrev pub all_in : Lent → List WrittenPiece
all_in lent = map (written_beside lent) lent.extensions.now

-- each marker of the extension begins one of its productions, whose left side is extensible
abbrev pub HasBridges : Lent → Addition → Type 0
HasBridges lent x =
    (t : ℕ) → IsTrue (is_marker_in x t) → BeginsBridge lent.grammar.now lent.extensible.now x.grammar.now (is_marker_in x) t

-- the host and each extension are certified, they are written apart, and markers begin bridges
pub record IsUnitable (lent : Lent) : Type 0 where
  pub certified : AreCertified lent.grammar.now lent.extensible.now (pieces_of (all_in lent))
  pub apart : AreWrittenApart lent.grammar.now lent.extensible.now (own_in lent) (all_in lent)
  pub bridges : All (HasBridges lent) lent.extensions.now
