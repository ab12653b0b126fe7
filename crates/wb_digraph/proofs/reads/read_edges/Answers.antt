use Rattle.std.proofs.Common.{◌≤◌, arith}
use Rattle.wb_items.specs.Kernels.{count_of}
use Rattle.wb_digraph.proofs.ReadLemmas.{edges_all, edges_more}
use Rattle.wb_digraph.proofs.reads.read_edges.Goals as goal

pub states-preserved : goal.states-preserved
states-preserved c =
    edges_more c.args.context.now.kernels.now c.states.state c.states.edges.items c.add_reads.new.edges.items c.in_ok-add_reads.ensures c.states.invariant

pub returns : goal.returns
returns c =
    let past : count_of c.args.context.now.kernels.now ≤ c.states.state =
    (let e = c.count-state-end.ensures.count in let t = c.states-test.false in omega (arith, e, t)) in
    edges_all c.args.context.now.kernels.now c.states.state c.states.edges.items past c.states.invariant
