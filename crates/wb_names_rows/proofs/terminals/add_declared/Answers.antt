use Rattle.std.proofs.Common.{List, sym, subst, option_to_list, take}
use Rattle.wb_names_theory.specs.Declarations.{LexicalDeclaration, lexical_of, lexicals}
use Rattle.wb_names_rows.specs.Terminals.{AddsTerminals, IsFoundTerminal, declares_scanned}
use Rattle.wb_names_rows.proofs.TerminalLemmas.{terminals_append, lexicals_more}
use Rattle.wb_names_rows.proofs.terminals.add_declared.Goals as goal

pub loop-item-preserved : goal.loop-item-preserved
loop-item-preserved c =
    subst (λ (z : List LexicalDeclaration). AddsTerminals declares_scanned (IsFoundTerminal c.args.owner) z c.args.made.now
    c.add_form.new.made)
    (sym (lexicals_more c.args.items.now c.loop-item.item-index c.item-item.result c.loop-item-test.true c.item-item.is))
    (terminals_append declares_scanned (IsFoundTerminal c.args.owner) (lexicals (take c.loop-item.item-index c.args.items.now))
    (option_to_list (lexical_of c.item-item.result.form)) c.args.made.now c.loop-item.made c.add_form.new.made c.loop-item.invariant
    c.in_ok-add_form.ensures)
