use Rattle.std.proofs.Common.{◌+◌, take, subst, sym}
use Rattle.std.specs.Prelude.{IfSome}
use Rattle.wb_syntax_resolved.specs.declared.terminal.Terminal.{Terminal}
use Rattle.wb_marking.specs.Inner.Compared.{AreOnlyTexts}
use Rattle.wb_automata.specs.Sharing.{IsOnlyMatch}
use Rattle.wb_marking.proofs.ListedLemmas.{texts_more}
use Rattle.wb_marking.proofs.clashes.texts_of.Goals as goal

pub terminals-preserved : goal.terminals-preserved
terminals-preserved c =
    subst (AreOnlyTexts (take (c.terminals.terminal-index + 1) c.args.terminals.now)) (sym c.in_ok-push.ensures.ok)
    (texts_more c.args.terminals.now c.terminals.terminal-index c.terminal-item.result c.terminals-test.true c.terminals.all.items
    c.in_ok-only_text.field-0 c.terminals.invariant
    (subst (λ (t : Terminal). IfSome c.in_ok-only_text.field-0 (IsOnlyMatch t.pattern)) c.terminal-item.is c.in_ok-only_text.ensures))
