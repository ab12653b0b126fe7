use Rattle.std.proofs.Common.{refl}
use Rattle.wb_lemmas.proofs.Members.{contains_at}
use Rattle.wb_flow.proofs.AddingLemmas.{read_item}
use Rattle.wb_explain_flows.proofs.rule.reads.Goals as goal

pub returns-then-is_read : goal.returns-then-is_read
returns-then-is_read c = λ yes.
    let node = c.node-item.result in (
      node,
      contains_at c.args.nodes.now node c.nodes.node-index
          (read_item c.args.nodes.now c.nodes.node-index node c.nodes-test.true c.node-item.is),
      c.if-is_read.ensures refl,
    )
