use Rattle.wb_digraph.proofs.FirstLemmas.{firsts_start}
use Rattle.wb_digraph.proofs.firsts.firsts_of.Goals as goal

pub states-init : goal.states-init
states-init c =
    firsts_start c.requires.context.are_kernels c.args.context.now.productions.now c.args.context.now.bases.now c.args.reads.now c.args.end
    c.requires.context.are_bases c.new-firsts.result.items c.new-firsts.ensures.items
