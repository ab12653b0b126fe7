use Rattle.std.proofs.Common.{◌≡◌, ◌-◌, arith, slice_index_or, subst}
use Rattle.wb_lemmas.proofs.Places.{at_default, default_at}
use Rattle.wb_compose_language.specs.declared.addition.Addition.{Addition}
use Rattle.wb_compose_language.specs.declared.row.Blocks.{Blocks}
use Rattle.wb_compose_language.specs.Inner.Rows.{AreBlocksOf}
use Rattle.wb_compose_language.proofs.LayoutLemmas.{owns_are}
use Rattle.wb_compose_language.proofs.OpenedLemmas.{extension_rows, host_rows}
use Rattle.wb_compose_language.proofs.preferences.blocks_of.Goals as goal

pub host_layouts-hosts-requires : goal.host_layouts-hosts-requires
host_layouts-hosts-requires c = host_rows c.args.lent.now c.requires.unitable

pub overflow_sub-result : goal.overflow_sub-result
overflow_sub-result c =
    let xs = c.args.lent.now.extensions.now in
    let k = c.args.number in
    let x = slice_index_or xs k c.index-lent-number.result in
    let rows = (extension_rows c.args.lent.now c.requires.unitable k x (at_default xs k c.index-lent-number.result c.requires.number)).0 in
    omega (arith, rows, c.terminals-own.ensures, c.terminals.ensures)

pub own_layouts-requires : goal.own_layouts-requires
own_layouts-requires c =
    let xs = c.args.lent.now.extensions.now in
    let k = c.args.number in
    let x = slice_index_or xs k c.index-lent-number.result in
    let rows = (extension_rows c.args.lent.now c.requires.unitable k x (at_default xs k c.index-lent-number.result c.requires.number)).1 in
    omega (arith, rows, c.host_layouts-hosts.ensures)

pub own_from-requires : goal.own_from-requires
own_from-requires c =
    let xs = c.args.lent.now.extensions.now in
    let k = c.args.number in
    let x = slice_index_or xs k c.index-lent-number.result in
    let rows = (extension_rows c.args.lent.now c.requires.unitable k x (at_default xs k c.index-lent-number.result c.requires.number)).1 in
    omega (arith, rows, c.host_layouts-hosts.ensures)

pub returns : goal.returns
returns c x at =
    let lent = c.args.lent.now in
    let k = c.args.number in
    let y = slice_index_or lent.extensions.now k c.index-lent-number.result in
    let blocks : Blocks = record {
      terminals = record {
        own = c.terminals-own.result;
        before = c.args.earlier.terminals;
        size = c.terminals.result - c.terminals-own.result;
        total = c.args.sums.terminals;
      };
      layouts = record {
        own = c.args.sums.from;
        before = c.args.earlier.layouts;
        size = c.own_layouts.result;
        total = c.args.sums.layouts;
      };
      first = c.own_from.result;
    } in
    let own = owns_are lent y in
    let are : AreBlocksOf lent k y blocks = record {
      blocks_are = record {
        own_is = c.terminals-own.ensures;
        before_is = c.requires.earlier.terminals_are;
        size_is = omega (arith, c.terminals-own.ensures, c.terminals.ensures);
        total_is = c.requires.sums.terminals_are;
        from_is = c.requires.sums.from_is;
        layouts_before_is = c.requires.earlier.layouts_are;
        layouts_is = omega (arith, own, c.own_layouts.ensures, c.host_layouts-hosts.ensures);
        layout_total_is = c.requires.sums.layouts_are;
      };
      first_is = omega (arith, c.own_from.ensures, c.host_layouts-hosts.ensures);
    } in
    subst (λ (z : Addition). AreBlocksOf lent k z blocks) (default_at lent.extensions.now k c.index-lent-number.result x at) are
