use Rattle.std.proofs.Common.{◌≡◌, ℕ, drop, reverse, subst, rules}
use Rattle.wb_values.specs.Inner.Layouts.{IsLayout}
use Rattle.wb_values.proofs.LayoutLemmas.{layout_whole}
use Rattle.wb_values.proofs.layout.lay_some_values.Goals as goal

pub returns-clause-ok : goal.returns-clause-ok
returns-clause-ok c =
    let none : c.children.place ≡ 0 = search rules in
    layout_whole c.args.nodes.now c.args.cells.now c.children.cells c.args.values.now c.children.layout
    (subst (λ (n : ℕ). IsLayout c.args.nodes.now c.args.cells.now c.children.cells (reverse (drop n c.args.values.now)) c.children.layout)
    none c.children.invariant.laid)
