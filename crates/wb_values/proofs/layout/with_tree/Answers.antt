use Rattle.std.proofs.Common.{◌≡◌, ◌<◌, suc, refl, rules, arith}
use Rattle.wb_values.proofs.LayoutLemmas.{layout_tree, size_le}
use Rattle.wb_values.proofs.layout.with_tree.Goals as goal

pub overflow_sub-result : goal.overflow_sub-result
overflow_sub-result c =
    let top : suc c.args.tree.0 ≡ c.args.layout.top = search rules in
    omega (arith, top, size_le c.args.nodes.now c.args.tree.0 c.requires.sized (omega (arith, top, c.requires.within.1)))

pub returns : goal.returns
returns c start listed done l =
    let lt : c.args.layout.unit < 4294967296 = search rules in
    let top : suc c.args.tree.0 ≡ c.args.layout.top = search rules in
    layout_tree c.args.nodes.now start listed done c.args.layout _ c.args.tree c.requires.sized lt top refl refl refl l
