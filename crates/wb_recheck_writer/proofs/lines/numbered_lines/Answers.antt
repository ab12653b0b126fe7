use Rattle.std.proofs.Common.{arith}
use Rattle.wb_grammar_theory.proofs.FlowLemmas.{zero_state}
use Rattle.wb_items.specs.Kernels.{prefix_of}
use Rattle.wb_recheck_writer.proofs.lines.numbered_lines.Goals as goal

pub new-requires : goal.new-requires
new-requires c =
    let some = zero_state (prefix_of c.args.kernels.now) c.requires.states in
    let is = c.count.ensures.count in
    omega (arith, some, is)
