use Rattle.std.proofs.Common.{◌∙◌, Some, ap, subst}
use Rattle.std.proofs.lemmas.Option.{IfSome_then}
use Rattle.wb_flow_theory.specs.Rules.{IsTreeAt}
use Rattle.wb_explain_flows_lists.proofs.LackLemmas.{child_kind_at, local_kind_at}
use Rattle.wb_syntax_resolved.specs.declared.production.Local.{Local}
use Rattle.wb_syntax_resolved.specs.Visible.{kind_at}
use Rattle.wb_explain_flows_lists.proofs.handed.nonterminal_at.Goals as goal

pub returns-then-number-children : goal.returns-then-number-children
returns-then-number-children c =
    let child = c.index-children-number.result in
    IfSome_then c.tree_kind.result c.tree_kind.ensures (λ m is. ap (kind_at c.args.production.now) c.in-Child.is
    ∙ (child_kind_at c.args.production.now c.as_slice-children.result.now c.in-Child.number child c.as_slice-children.ensures
    c.if-number-children.true c.index-children-number.is ∙ ap Some (ap (λ z. z.kind) c.index-children-number.is ∙ is)))

pub returns-then-number-locals : goal.returns-then-number-locals
returns-then-number-locals c =
    let l = c.index-locals-number.result in
    subst (λ (z : Local). IsTreeAt c.args.production.now c.args.at z.nonterminal) c.index-locals-number.is
    (ap (kind_at c.args.production.now) c.in-Local.is ∙ local_kind_at c.args.production.now c.as_slice-locals.result.now c.in-Local.number l
    c.as_slice-locals.ensures c.if-number-locals.true c.index-locals-number.is)
