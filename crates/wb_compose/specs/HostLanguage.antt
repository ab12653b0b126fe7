-- The language of a host by itself.
use Rattle.std.specs.Prelude.{◌-◌, ℕ, List, length, map}
use Rattle.std.specs.List.{range_with_len}
use Rattle.wb_scan.specs.Bare.{language_with}
use Rattle.wb_base.specs.Grammar.{GrammarView}
use Rattle.wb_certify.specs.Lexicons.{preference_pairs}
use Rattle.wb_scan_theory.specs.Languages.{LanguageView}
use Rattle.wb_syntax_resolved.specs.declared.resolved.ResolvedParts.{ResolvedParts}
use Rattle.wb_syntax_resolved.specs.declared.terminal.Terminal.{Terminal}

-- the numbers of layout, which come after those of the grammar's terminals
abbrev pub layout_numbers : ResolvedParts → GrammarView → List ℕ
layout_numbers r g = range_with_len g.terminals (length r.terminals - g.terminals)

-- the language of a host with this grammar: its terminals are written as they are
abbrev pub host_language : ResolvedParts → GrammarView → LanguageView
host_language r g = language_with g (map (λ (t : Terminal). t.pattern) r.terminals) (layout_numbers r g) (preference_pairs r)
