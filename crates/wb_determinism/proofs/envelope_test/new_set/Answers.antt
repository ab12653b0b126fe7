use Rattle.std.proofs.Common.{subst, sym}
use Rattle.wb_determinism.specs.Inner.Considered.{IsOwnList}
use Rattle.wb_determinism.proofs.envelope_test.new_set.Goals as goal

pub set_of_items-requires-clause-own : goal.set_of_items-requires-clause-own
set_of_items-requires-clause-own c = subst (IsOwnList c.args.context.now c.args.state) (sym c.as_slice.ensures) c.in_ok-own.ensures
