use Rattle.std.proofs.Common.{Some, ap, ◌∙◌}
use Rattle.wb_base.specs.declared.symbol.Kind.TheVariants.{Tree}
use Rattle.wb_syntax_resolved.specs.declared.production.Child.{Child}
use Rattle.wb_syntax_resolved.specs.declared.production.ChildKind.TheVariants.{Value}
use Rattle.wb_syntax_resolved.specs.declared.production.Local.{Local}
use Rattle.wb_explain_mismatches.proofs.PlaceLemmas.{map_at, child_is, local_is}
use Rattle.wb_explain_mismatches.proofs.kinds.place_kind.Goals as goal

pub returns-in-Value : goal.returns-in-Value
returns-in-Value c =
    child_is c.args.production.now c.args.place c.in-Child.number c.in-Child.is
    ∙ map_at (λ (z : Child). z.kind) c.args.production.now.children c.as_slice-children.result.now c.in-Child.number _
    c.as_slice-children.ensures c.if-number-children.false ∙ ap Some c.in-Value.is

pub returns-else-number-locals : goal.returns-else-number-locals
returns-else-number-locals c =
    local_is c.args.production.now c.args.place c.in-Local.number c.in-Local.is
    ∙ map_at (λ (l : Local). Value (Tree l.nonterminal)) c.args.production.now.locals c.as_slice-locals.result.now c.in-Local.number
    c.index-locals-number.result c.as_slice-locals.ensures c.if-number-locals.false
