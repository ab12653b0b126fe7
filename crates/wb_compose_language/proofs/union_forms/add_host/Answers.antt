use Rattle.std.proofs.Common.{arith, refl, slice_index_or}
use Rattle.wb_lemmas.proofs.Places.{at_default}
use Rattle.wb_compose_language.proofs.MadeLemmas.{host_step}
use Rattle.wb_compose_language.proofs.OpenedLemmas.{bare_added, host_rows}
use Rattle.wb_compose_language.proofs.union_forms.add_host.Goals as goal

pub terminals-preserved : goal.terminals-preserved
terminals-preserved c =
    let lent = c.args.lent.now in
    let n = c.terminals.terminal in
    let rows = lent.terminals.now in
    let row = slice_index_or rows n c.index-lent-terminal.result in
    let fits = host_rows lent c.requires.unitable in
    host_step lent c.requires.unitable n row c.terminals.made _ (omega (arith, c.terminals-test.true, c.terminals-terminal-end.ensures))
    (at_default rows n c.index-lent-terminal.result (omega (arith, c.terminals-test.true, c.terminals-terminal-end.ensures, fits)))
    (bare_added c.terminals.made _ n row.pattern c.in_ok-add_bare.ensures.forms c.in_ok-add_bare.ensures.expressions refl)
    c.terminals.invariant
