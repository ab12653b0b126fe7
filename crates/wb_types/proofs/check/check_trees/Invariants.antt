use Rattle.std.proofs.Common.{All, take}
use Rattle.wb_base.specs.declared.symbol.Kind.TheVariants.{Tree}
use Rattle.wb_syntax_resolved.specs.declared.production.Local.{Local}
use Rattle.wb_types.specs.Inner.Passes.{Passes}
use Rattle.wb_types.proofs.check.check_trees.Given as goal

abbrev pub invariant-locals : goal.invariant-locals
invariant-locals l = All
    (λ (z : Local). Passes l.context.rule l.context.attributes.now l.context.operations.now l.context.production.now z.nodes
    (Tree z.nonterminal))
    (take l.local-index l.local-items)
