use Rattle.std.proofs.Common.{◌∷◌, [], subst}
use Rattle.wb_syntax_resolved.specs.declared.terminal.Terminal.{Terminal}
use Rattle.wb_names_rows.specs.Terminals.{AddsTerminals, IsCopy, has_scanned}
use Rattle.wb_names_rows.proofs.TerminalLemmas.{terminals_more}
use Rattle.wb_names_rows.proofs.terminals.add_base.Goals as goal

pub loop-terminal-preserved : goal.loop-terminal-preserved
loop-terminal-preserved c =
    let added = subst (λ (z : Terminal). AddsTerminals has_scanned IsCopy (z ∷ []) c.loop-terminal.made c.add.new.made)
    c.in_ok-copied.ensures
    c.in_ok-add.ensures in
    terminals_more has_scanned IsCopy c.args.terminals.now c.loop-terminal.terminal-index c.terminal-item.result c.args.made.now
    c.loop-terminal.made c.add.new.made c.loop-terminal.invariant c.loop-terminal-test.true c.terminal-item.is added
