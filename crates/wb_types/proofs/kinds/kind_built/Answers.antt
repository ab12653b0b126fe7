use Rattle.std.proofs.Common.{◌<◌, None, refl, subst}
use Rattle.wb_base.specs.declared.symbol.Kind.TheVariants.{Tree}
use Rattle.wb_types.specs.Inner.Nodes.{BuildsKind}
use Rattle.wb_types.proofs.AtLemmas.{never_both, none_exact, some_exact}
use Rattle.wb_types.proofs.OperationLemmas.{builds_exact, builds_left, left_builds}
use Rattle.wb_types.proofs.kinds.kind_built.Goals as goal

pub returns-then-not-are_at : goal.returns-then-not-are_at
returns-then-not-are_at c =
    none_exact None (BuildsKind c.args.signatures.now c.args.kinds.now c.args.production c.args.children.now) refl
    (λ is builds. never_both c.are_at.result c.if-not-are_at.true (c.are_at.ensures.1
    (builds_exact c.args.signatures.now c.args.kinds.now c.args.production c.args.children.now c.children.result.now c.children.ensures
    is builds)))

pub returns : goal.returns
returns c =
    some_exact (Tree c.left.result) (BuildsKind c.args.signatures.now c.args.kinds.now c.args.production c.args.children.now)
    (left_builds c.args.signatures.now c.args.kinds.now c.args.production c.args.children.now c.children.result.now c.left.result
    (subst (λ z. c.args.production < z) c.len.ensures c.if-production-len.false) c.children.ensures c.left.ensures
    (c.are_at.ensures.0 c.if-not-are_at.false))
    (builds_left c.args.signatures.now c.args.kinds.now c.args.production c.args.children.now c.left.result c.left.ensures)
