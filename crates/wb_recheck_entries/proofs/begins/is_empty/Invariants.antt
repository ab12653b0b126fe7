use Rattle.std.proofs.Common.{[], drop}
use Rattle.std.specs.Prelude.{◌↔◌}
use Rattle.wb_grammar_theory.specs.Derives.{Derives}
use Rattle.wb_recheck_entries.proofs.begins.is_empty.Given as goal

abbrev pub invariant-symbols : goal.invariant-symbols
invariant-symbols l = Derives l.grammar l.symbols [] ↔ Derives l.grammar (drop l.symbol-index l.symbols) []
