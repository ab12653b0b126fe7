use Rattle.std.proofs.Common.{◌≡◌, ◌++◌, take, map}
use Rattle.wb_syntax_resolved.specs.declared.terminal.Terminal.{Terminal}
use Rattle.wb_names_theory.specs.declared.declaration.Declaration.TheVariants as d
use Rattle.wb_names_theory.specs.Declares.{terminal_sort}
use Rattle.wb_names_lists.proofs.base.add_terminals.Given as goal

abbrev pub invariant-terminals : goal.invariant-terminals
invariant-terminals l = l.out.items ≡ l.fn.out.items ++ map (λ (x : Terminal). d.Symbol x.name (terminal_sort x.kind)) (take l.terminal-index l.terminals)
