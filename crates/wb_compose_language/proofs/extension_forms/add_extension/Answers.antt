use Rattle.std.proofs.Common.{◌≡◌, ◌+◌, arith, slice_index_or, subst}
use Rattle.wb_lemmas.proofs.Places.{at_default}
use Rattle.wb_compose_theory_grammar.specs.Places.{count_before}
use Rattle.wb_compose_language.specs.Inner.FormsMade.{AreMadeBelow}
use Rattle.wb_compose_language.specs.Inner.Opened.{sizes_in}
use Rattle.wb_compose_language.proofs.OpenedLemmas.{extension_end, extension_more, own_terminal}
use Rattle.wb_compose_language.proofs.extension_forms.add_extension.Goals as goal

pub add_terminal-requires-clause-terminal : goal.add_terminal-requires-clause-terminal
add_terminal-requires-clause-terminal c =
    let lent = c.args.opened.now.lent in
    let xs = lent.extensions.now in
    own_terminal lent c.requires.opened.unitable c.args.extension c.terminals.number c.args.before
    (slice_index_or xs c.args.extension c.index-opened-extension.result)
    (at_default xs c.args.extension c.index-opened-extension.result c.requires.extension)
    (omega (arith, c.terminals.auto.number, c.terminals-number.ensures))
    (omega (arith, c.terminals-test.true, c.terminals-count.ensures)) c.requires.before

pub returns : goal.returns
returns c =
    let lent = c.args.opened.now.lent in
    let ok = c.requires.opened.unitable in
    let xs = lent.extensions.now in
    let k = c.args.extension in
    let x = slice_index_or xs k c.index-opened-extension.result in
    let at = at_default xs k c.index-opened-extension.result c.requires.extension in
    let last = extension_end lent ok k x at in
    let some = extension_more lent ok k x at in
    let e : c.terminals.number + c.args.before ≡ lent.grammar.now.terminals + count_before (sizes_in lent) (k + 1) =
    omega (
      arith,
      last,
      some,
      c.requires.before,
      c.terminals.auto.number,
      c.terminals.auto.number-end,
      c.terminals-test.false,
      c.terminals-count.ensures,
      c.terminals-number.ensures,
    ) in
    subst (λ n. AreMadeBelow lent n c.terminals.made) e c.terminals.invariant
