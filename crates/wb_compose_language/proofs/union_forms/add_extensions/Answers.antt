use Rattle.std.proofs.Common.{◌≡◌, ◌∙◌, ◌+◌, ◌-◌, ap, arith, length, slice_index_or, subst, sym}
use Rattle.wb_lemmas.proofs.Places.{at_default}
use Rattle.wb_compose_theory_grammar.specs.Places.{count_before}
use Rattle.wb_compose_language.specs.Inner.FormsMade.{AreMadeBelow}
use Rattle.wb_compose_language.specs.Inner.Opened.{sizes_in, union_terminals}
use Rattle.wb_compose_language.proofs.OpenedLemmas.{all_end, extension_end, extension_more}
use Rattle.wb_compose_language.proofs.WholeLemmas.{count_none}
use Rattle.wb_compose_language.proofs.union_forms.add_extensions.Goals as goal

pub extensions-init : goal.extensions-init
extensions-init c =
    let lent = c.args.opened.now.lent in
    let e : lent.grammar.now.terminals ≡ lent.grammar.now.terminals + 0 = omega arith in
    (sym (count_none (sizes_in lent)), subst (λ n. AreMadeBelow lent n c.args.made.now) e c.requires.made)

pub extensions-preserved : goal.extensions-preserved
extensions-preserved c =
    let lent = c.args.opened.now.lent in
    let ok = c.requires.opened.unitable in
    let xs = lent.extensions.now in
    let k = c.extensions.number in
    let x = slice_index_or xs k c.index-opened-number.result in
    let at = at_default xs k c.index-opened-number.result (omega (arith, c.extensions-test.true)) in
    let last = extension_end lent ok k x at in
    let more = extension_more lent ok k x at in
    let next : c.in_ok-before.before ≡ c.extensions.before + (c.terminals.result - c.terminals-own.result) = c.in_ok-before.ensures in
    let e : c.in_ok-before.before ≡ count_before (sizes_in lent) (k + 1) =
    omega (arith, last, more, next, c.extensions.invariant.0, c.terminals.ensures, c.terminals-own.ensures) in
    (e, subst (λ n. AreMadeBelow lent (lent.grammar.now.terminals + n) c.add_extension.new.made) (sym e) c.in_ok-add_extension.ensures)

pub returns : goal.returns
returns c =
    let lent = c.args.opened.now.lent in
    let ok = c.requires.opened.unitable in
    let number_is : c.extensions.number ≡ length lent.extensions.now =
    omega (arith, c.extensions-test.false, c.extensions.auto.number-end) in
    let e : lent.grammar.now.terminals + c.extensions.before ≡ union_terminals lent =
    ap (λ n. lent.grammar.now.terminals + n) (c.extensions.invariant.0 ∙ ap (count_before (sizes_in lent)) number_is) ∙ all_end lent ok in
    subst (λ n. AreMadeBelow lent n c.extensions.made) e c.extensions.invariant.1
