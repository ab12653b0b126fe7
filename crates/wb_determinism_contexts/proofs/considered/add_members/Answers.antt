use Rattle.std.proofs.Common.{arith, refl}
use Rattle.wb_determinism_contexts.proofs.SetLemmas.{added_first}
use Rattle.wb_determinism_contexts.proofs.considered.add_members.Goals as goal

pub members-init : goal.members-init
members-init c = record { low = omega arith; len = refl; added = added_first c.args.set.now c.args.other.now }
