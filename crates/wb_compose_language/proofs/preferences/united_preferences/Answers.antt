use Rattle.std.proofs.Common.{get_or, sym, arith}
use Rattle.std.proofs.lemmas.Option.{slice_get-get_or}
use Rattle.wb_compose_language.specs.Inner.Layouts.{layout_sizes_in}
use Rattle.wb_compose_language.specs.Inner.Rows.{sizes_of}
use Rattle.wb_compose_language.proofs.PreferenceLemmas.{blocks_fit, earlier_next, gathered_all, gathered_first, gathered_more}
use Rattle.wb_compose_language.proofs.WholeLemmas.{count_none}
use Rattle.wb_compose_language.proofs.preferences.united_preferences.Goals as goal

pub add_pairs-requires : goal.add_pairs-requires
add_pairs-requires c = (omega (arith, c.host_blocks.ensures.size_is), omega (arith, c.host_blocks.ensures.layouts_is))

pub extensions-init : goal.extensions-init
extensions-init c = record {
  earlier = record {
    terminals_are = sym (count_none (sizes_of c.args.lent.now));
    layouts_are = sym (count_none (layout_sizes_in c.args.lent.now));
  };
  pairs = gathered_first c.args.lent.now c.host_blocks.result c.new-pairs.result.items c.add_pairs.new.pairs.items c.host_blocks.ensures
      c.new-pairs.ensures.items c.in_ok-add_pairs.ensures;
}

pub blocks_of-blocks-requires-clause-earlier : goal.blocks_of-blocks-requires-clause-earlier
blocks_of-blocks-requires-clause-earlier c = c.extensions.invariant.earlier

pub add_own_pairs-requires : goal.add_own_pairs-requires
add_own_pairs-requires c =
    let xs = c.args.lent.now.extensions.now in
    let k = c.extensions.number in
    let x = get_or xs k c.index-lent-number.result in
    let at = slice_get-get_or xs k c.index-lent-number.result (omega arith) in
    let fits = blocks_fit c.args.lent.now c.requires.unitable k x at c.blocks_of-blocks.result (c.blocks_of-blocks.ensures x at) in
    (omega (arith, fits.0), omega (arith, fits.1))

pub after-earlier-requires-clause-terminals : goal.after-earlier-requires-clause-terminals
after-earlier-requires-clause-terminals c =
    let xs = c.args.lent.now.extensions.now in
    let k = c.extensions.number in
    let x = get_or xs k c.index-lent-number.result in
    let at = slice_get-get_or xs k c.index-lent-number.result (omega arith) in
    (blocks_fit c.args.lent.now c.requires.unitable k x at c.blocks_of-blocks.result (c.blocks_of-blocks.ensures x at)).0

pub after-earlier-requires-clause-layouts : goal.after-earlier-requires-clause-layouts
after-earlier-requires-clause-layouts c =
    let xs = c.args.lent.now.extensions.now in
    let k = c.extensions.number in
    let x = get_or xs k c.index-lent-number.result in
    let at = slice_get-get_or xs k c.index-lent-number.result (omega arith) in
    (blocks_fit c.args.lent.now c.requires.unitable k x at c.blocks_of-blocks.result (c.blocks_of-blocks.ensures x at)).1

pub extensions-preserved : goal.extensions-preserved
extensions-preserved c =
    let lent = c.args.lent.now in
    let ok = c.requires.unitable in
    let xs = lent.extensions.now in
    let k = c.extensions.number in
    let x = get_or xs k c.index-lent-number.result in
    let at = slice_get-get_or xs k c.index-lent-number.result (omega arith) in
    let blocks = c.blocks_of-blocks.result in
    let are = c.blocks_of-blocks.ensures x at in
    record {
      earlier = earlier_next lent ok k x at blocks c.after-earlier.result are c.after-earlier.ensures.terminals
          c.after-earlier.ensures.layouts;
      pairs = gathered_more lent ok k x at blocks c.extensions.pairs.items c.add_own_pairs.new.pairs.items are
          c.extensions.invariant.pairs c.in_ok-add_own_pairs.ensures;
    }

pub returns : goal.returns
returns c =
    gathered_all c.args.lent.now c.extensions.number c.extensions.pairs.items c.extensions.invariant.pairs (omega arith)
