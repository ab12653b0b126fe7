use Rattle.std.proofs.Common.{◌≡◌, ◌<◌, ◌++◌, [], length, reverse}
use Rattle.std.specs.Prelude.{slice_index_or}
use Rattle.wb_items.proofs.kernel_index.KernelIndex.prefix.Given as goal

abbrev pub invariant-steps : goal.invariant-steps
invariant-steps l = (l.at < length l.self.kernels) ×
    (slice_index_or l.self.prefixes l.number [] ≡ slice_index_or l.self.prefixes l.at [] ++ reverse l.symbols.items)

abbrev pub decreases-steps : goal.decreases-steps
decreases-steps l = l.at
