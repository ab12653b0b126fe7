use Rattle.std.proofs.Common.{◌≡◌, ◌+◌, arith, slice_index_or, subst}
use Rattle.wb_lemmas.proofs.Places.{at_default}
use Rattle.wb_compose_language.specs.Inner.Layouts.{ArePatternsFrom, hosts_in}
use Rattle.wb_compose_language.proofs.LayoutLemmas.{trees_all, trees_first, trees_more}
use Rattle.wb_compose_language.proofs.OpenedLemmas.{extension_rows, host_rows}
use Rattle.wb_compose_language.proofs.union_forms.add_layout.Goals as goal

pub host_layouts-hosts-requires : goal.host_layouts-hosts-requires
host_layouts-hosts-requires c = host_rows c.args.lent.now c.requires

pub extensions-init : goal.extensions-init
extensions-init c =
    let lent = c.args.lent.now in
    let old = c.args.expressions.now.items in
    let now = c.add_patterns.new.expressions.items in
    trees_first lent c.requires old now
    (subst (λ n. ArePatternsFrom n lent.terminals.now old now) c.terminals.ensures c.in_ok-add_patterns.ensures)

pub own_from-requires : goal.own_from-requires
own_from-requires c =
    let xs = c.args.lent.now.extensions.now in
    let k = c.extensions.number in
    let x = slice_index_or xs k c.index-lent-number.result in
    let at = at_default xs k c.index-lent-number.result (omega (arith, c.extensions-test.true)) in
    let rows = (extension_rows c.args.lent.now c.requires k x at).1 in
    omega (arith, rows, c.host_layouts-hosts.ensures)

pub add_patterns-requires-in-extensions : goal.add_patterns-requires-in-extensions
add_patterns-requires-in-extensions c =
    let xs = c.args.lent.now.extensions.now in
    let k = c.extensions.number in
    let x = slice_index_or xs k c.index-lent-number.result in
    let at = at_default xs k c.index-lent-number.result (omega (arith, c.extensions-test.true)) in
    let rows = (extension_rows c.args.lent.now c.requires k x at).1 in
    omega (arith, rows, c.host_layouts-hosts.ensures, c.own_from.ensures)

pub extensions-preserved : goal.extensions-preserved
extensions-preserved c =
    let lent = c.args.lent.now in
    let xs = lent.extensions.now in
    let k = c.extensions.number in
    let x = slice_index_or xs k c.index-lent-number.result in
    let at = at_default xs k c.index-lent-number.result (omega (arith, c.extensions-test.true)) in
    let was = c.extensions.expressions.items in
    let now = c.add_patterns-in-extensions.new.expressions.items in
    let e : c.own_from.result ≡ x.grammar.now.terminals + hosts_in lent = omega (arith, c.own_from.ensures, c.host_layouts-hosts.ensures) in
    trees_more lent c.requires k x at c.args.expressions.now.items was now c.extensions.invariant
    (subst (λ n. ArePatternsFrom n x.terminals.now was now) e c.in_ok-add_patterns-2.ensures)

pub returns : goal.returns
returns c =
    trees_all c.args.lent.now c.extensions.number c.args.expressions.now.items c.extensions.expressions.items
    (omega (arith, c.extensions-test.false, c.extensions.auto.number-end)) c.extensions.invariant
