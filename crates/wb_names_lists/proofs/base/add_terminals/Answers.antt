use Rattle.std.proofs.Common.{◌++◌, ◌∷◌, [], ap, ◌∙◌}
use Rattle.wb_syntax_resolved.specs.declared.terminal.Terminal.{Terminal}
use Rattle.wb_names_theory.specs.declared.declaration.Declaration.TheVariants as d
use Rattle.wb_names_theory.specs.Declares.{terminal_sort}
use Rattle.wb_names_lists.proofs.ListLemmas.{map_next, map_all}
use Rattle.wb_names_lists.proofs.base.add_terminals.Goals as goal

pub terminals-preserved : goal.terminals-preserved
terminals-preserved c =
    map_next (λ (x : Terminal). d.Symbol x.name (terminal_sort x.kind))
    c.args.terminals.now c.terminals.terminal-index c.terminal-item.result c.args.out.now.items c.terminals.out.items
    c.add_symbol.new.out.items
    c.terminals.invariant c.terminals-test.true c.terminal-item.is
    (c.in_ok-add_symbol.ensures ∙ ap (λ z. c.terminals.out.items ++ d.Symbol c.terminal-item.result.name z ∷ []) c.terminal_sort.ensures)

pub returns : goal.returns
returns c =
    map_all (λ (x : Terminal). d.Symbol x.name (terminal_sort x.kind))
    c.args.terminals.now c.terminals.terminal-index c.args.out.now.items c.terminals.out.items c.terminals.invariant c.terminals-test.false
