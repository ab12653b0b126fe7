use Rattle.wb_compose_kernels.proofs.LoopLemmas.{with_is}
use Rattle.wb_compose_kernels.proofs.part_blocks.blocks_with.Goals as goal

pub returns : goal.returns
returns c ok =
    with_is c.args.splice.now ok c.args.before c.args.size
    (record {
      terminals = c.terminals_with.result;
      nonterminals = c.nonterminals_with.result;
      productions = c.productions_with.result;
    }) (λ i. record {
      terminals = c.terminals_with.ensures i;
      nonterminals = c.nonterminals_with.ensures i;
      productions = c.productions_with.ensures i;
    })
