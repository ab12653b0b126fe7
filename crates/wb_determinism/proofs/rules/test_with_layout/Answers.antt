use Rattle.std.proofs.Common.{subst, sym}
use Rattle.wb_items.specs.Kernels.{count_of}
use Rattle.wb_determinism.specs.Inner.Considered.{AreConsidered}
use Rattle.wb_determinism.proofs.rules.test_with_layout.Goals as goal

pub test_scanner-requires-clause-sets : goal.test_scanner-requires-clause-sets
test_scanner-requires-clause-sets c =
    let x = c.args.context.now in
    record {
      regions = c.args.regions.now;
      are_regions = c.requires.regions;
      considered = subst (AreConsidered x c.args.layout.now c.args.regions.now (count_of x.both.now)) (sym c.deref.ensures.value)
          c.in_ok-sets.ensures.ok;
    }
