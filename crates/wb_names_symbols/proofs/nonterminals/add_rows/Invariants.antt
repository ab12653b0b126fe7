use Rattle.std.proofs.Common.{take}
use Rattle.wb_syntax_resolved.specs.declared.attributes.Nonterminal.{Nonterminal}
use Rattle.wb_names_numbers_theory.specs.Files.{IsInGrammar}
use Rattle.wb_names_symbols.specs.Lent.{lent_file}
use Rattle.wb_names_symbols.specs.Inner.Nonterminals.{AddsApart, IsSame}
use Rattle.wb_names_symbols.proofs.nonterminals.add_rows.Given as goal

abbrev pub invariant-loop-number : goal.invariant-loop-number
invariant-loop-number l =
    AddsApart (λ (x : Nonterminal). IsInGrammar (lent_file l.file) x.name) IsSame (take l.number l.rows) l.fn.made l.made
