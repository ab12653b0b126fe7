use Rattle.std.proofs.Common.{refl}
use Rattle.wb_types.specs.Rules.{HasArity}
use Rattle.wb_types.proofs.PassLemmas.{taken_more, taken_all}
use Rattle.wb_types.proofs.check.have_arities.Goals as goal

pub nodes-preserved : goal.nodes-preserved
nodes-preserved c =
    taken_more
    (HasArity c.args.context.now.attributes.now c.args.context.now.operations.now) c.args.nodes.now c.nodes.node-index
    c.node-item.result c.nodes.invariant
    c.nodes-test.true c.node-item.is (c.has_arity.ensures.0 c.if-not-has_arity.false)

pub returns : goal.returns
returns c = (
  λ e. taken_all
      (HasArity c.args.context.now.attributes.now c.args.context.now.operations.now) c.args.nodes.now c.nodes.node-index c.nodes.invariant
      c.nodes-test.false,
  λ all. refl,
)
