use Rattle.std.proofs.Common.{take}
use Rattle.std.specs.List.{flat_map}
use Rattle.wb_syntax_resolved.specs.declared.production.Production.{Production}
use Rattle.wb_names_rows.specs.Inner.Marks.{Marks, role_numbers}
use Rattle.wb_names_rows.proofs.in_grammar.mark_productions.Given as goal

abbrev pub invariant-productions : goal.invariant-productions
invariant-productions l = Marks (flat_map (λ (p : Production). role_numbers p.role p) (take l.production-index l.productions)) l.fn.flags.items l.flags.items
