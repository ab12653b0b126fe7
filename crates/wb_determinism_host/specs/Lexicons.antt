-- What is scanned of a resolved specification, and its preferences.
use Rattle.std.specs.Prelude.{◌==◌, ℕ, Bool, true, false, List, if◌then◌else◌, length, map}
use Rattle.wb_base.specs.Grammar.{GrammarView}
use Rattle.wb_determinism_contexts.specs.Considered.{LexiconView}
use Rattle.wb_syntax_resolved.specs.declared.resolved.ResolvedParts.{ResolvedParts}
use Rattle.wb_syntax_resolved.specs.declared.terminal.Preference.{Preference}
use Rattle.wb_syntax_resolved.specs.declared.terminal.Terminal.{Terminal}
use Rattle.wb_syntax_resolved.specs.declared.terminal.TerminalKind.{TerminalKind}
use Rattle.wb_syntax_resolved.specs.declared.terminal.TerminalKind.TheVariants.{Plain, Ignore, Marking}
use Rattle.wb_determinism_host.specs.declared.lexicon.LayoutOwner.{LayoutOwner}
use Rattle.wb_determinism_host.specs.declared.lexicon.LayoutOwner.TheVariants.{Any, Host, Extension, Nobody}

-- the preferences as pairs, the preferred terminal first
abbrev pub preference_pairs : ResolvedParts → List (ℕ × ℕ)
preference_pairs r = map (λ (p : Preference). (p.first, p.second)) r.preferences

-- layout alone is skipped
abbrev pub is_layout : TerminalKind → Bool
is_layout Plain = false
is_layout Ignore = true
is_layout Marking = false

-- layout of the host
abbrev pub is_host_layout : Terminal → Bool
is_host_layout t = if t.owner == 0 then (is_layout t.kind) else false

-- layout of an extension
abbrev pub is_own_layout : Terminal → Bool
is_own_layout t = if t.owner == 0 then false else (is_layout t.kind)

-- layout of those that are meant
abbrev pub is_layout_of : LayoutOwner → Terminal → Bool
is_layout_of Any t = is_layout t.kind
is_layout_of Host t = is_host_layout t
is_layout_of Extension t = is_own_layout t
is_layout_of Nobody t = false

-- its terminals, which have the numbers of the grammar, and layout, all of it the host's; a hole, and the end of a text, match no text and
-- are left out
abbrev pub lexicon_of : ResolvedParts → GrammarView → LexiconView
lexicon_of r g =
    record {
      expressions = map (λ (t : Terminal). t.pattern) r.terminals;
      scanned = g.terminals;
      layout = map (λ (t : Terminal). is_layout t.kind) r.terminals;
      own_layout = map (λ (t : Terminal). false) r.terminals;
      own_productions = (0, 0);
      preferences = preference_pairs r;
    }

-- the same of a host with an extension, whose productions are those from this number on: the extension's layout is its own
abbrev pub lexicon_beside : ResolvedParts → GrammarView → ℕ → LexiconView
lexicon_beside r g first =
    record {
      expressions = map (λ (t : Terminal). t.pattern) r.terminals;
      scanned = g.terminals;
      layout = map is_host_layout r.terminals;
      own_layout = map is_own_layout r.terminals;
      own_productions = (first, length g.productions);
      preferences = preference_pairs r;
    }
