use Rattle.std.proofs.Common.{sym, ap, ◌∙◌}
use Rattle.wb_flow.specs.Inner.Positions.{nonterminal_at}
use Rattle.wb_flow.proofs.TreeLemmas.{child_at, no_child, local_at, no_local}
use Rattle.wb_flow.proofs.positions.nonterminal_in.Goals as goal

pub returns-then-number-children : goal.returns-then-number-children
returns-then-number-children c =
    c.tree_kind.ensures
    ∙ child_at c.args.production.now c.in-Child.number c.as_slice-children.result.now c.as_slice-children.ensures
    c.index-children-number.result
    c.if-number-children.true
    ∙ ap (nonterminal_at c.args.production.now) (sym c.in-Child.is)

pub returns-else-number-children : goal.returns-else-number-children
returns-else-number-children c =
    no_child c.args.production.now c.in-Child.number c.as_slice-children.result.now c.as_slice-children.ensures c.if-number-children.false
    ∙ ap (nonterminal_at c.args.production.now) (sym c.in-Child.is)

pub returns-then-number-locals : goal.returns-then-number-locals
returns-then-number-locals c =
    local_at c.args.production.now c.in-Local.number c.as_slice-locals.result.now c.as_slice-locals.ensures c.index-locals-number.result
    c.if-number-locals.true
    ∙ ap (nonterminal_at c.args.production.now) (sym c.in-Local.is)

pub returns-else-number-locals : goal.returns-else-number-locals
returns-else-number-locals c =
    no_local c.args.production.now c.in-Local.number c.as_slice-locals.result.now c.as_slice-locals.ensures c.if-number-locals.false
    ∙ ap (nonterminal_at c.args.production.now) (sym c.in-Local.is)
