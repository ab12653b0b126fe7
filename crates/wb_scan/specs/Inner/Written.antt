-- How a grammar's terminals are written, as private functions are lent it.
use Rattle.wb_base.specs.Grammar.{GrammarView}
use Rattle.wb_scan_theory.specs.Languages.{LanguageView}
use Rattle.wb_scan.specs.declared.bare_language.Written.{Written}
use Rattle.wb_scan.specs.Bare.{language_with, AreWrittenFor}

-- the language
abbrev pub language_of_written : GrammarView → Written → LanguageView
language_of_written g written = language_with g written.regexes.now written.layout.now written.preferences.now

-- the expressions, layout and preferences are those of the grammar's terminals
abbrev pub written_for : GrammarView → Written → Type 0
written_for g written = AreWrittenFor g.terminals written.regexes.now written.layout.now written.preferences.now
