use Rattle.wb_determinism.proofs.ConsideredLemmas.{in_kernel, fault_out}
use Rattle.wb_determinism.proofs.envelope_test.set_of_row.Goals as goal

pub row_fault-requires-clause-own : goal.row_fault-requires-clause-own
row_fault-requires-clause-own c = in_kernel c.args.context.now c.requires.context c.args.state c.args.own.now c.requires.own

pub lookahead_refusal-requires-clause-fault : goal.lookahead_refusal-requires-clause-fault
lookahead_refusal-requires-clause-fault c =
    fault_out c.args.context.now c.requires.context c.args.state c.args.own.now c.requires.own c.in-Some.fault c.in-Some.ensures
