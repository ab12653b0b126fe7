-- What is given of a host and its extensions where their kernels are listed.
use Rattle.std.specs.Prelude.{◌<◌, ℕ, suc}
use Rattle.wb_items.specs.Kernels.{AreKernels, IsLedTo, count_of}
use Rattle.wb_compose_kernels.specs.declared.splice.Splice.{Splice}
use Rattle.wb_compose_kernels.specs.Lent.{AreSpliceable}

-- they are certified, and the host's kernels are as they were found, each after the first led to from one before it
pub record IsGiven (s : Splice) : Type 0 where
  pub spliceable : AreSpliceable s
  pub kernels : AreKernels s.kernels.now
  pub reached : (k : ℕ) → suc k < count_of s.kernels.now → IsLedTo s.kernels.now (suc k)
