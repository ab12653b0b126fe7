-- A host and an extension, of which the new kernels are asked.
use Rattle.std.specs.Prelude.{◌≡◌, ℕ, List, Option}
use Rattle.wb_base.specs.Grammar.{GrammarView}
use Rattle.wb_grammar_theory.specs.Shape.{IsLive}
use Rattle.wb_items.specs.Kernels.{AreKernels, KernelsView}
use Rattle.wb_determinism_theory.specs.Beside.{IsBeside}
use Rattle.wb_determinism_kernels.specs.declared.numbers.Numbers.{Numbers}
use Rattle.wb_determinism_kernels.specs.Numbers.{phi_by, up_by}

-- the kernels are those of the grammar of a host with holes, k is the grammar of the host with an extension and holes, the host's terminals
-- stand for themselves, and some terminal begins what is after a dot in k
pub record IsGiven (host : KernelsView) (k : GrammarView) (m : Numbers) (images : List (Option ℕ)) : Type 0 where
  pub kernels : AreKernels host
  pub beside : IsBeside host.grammar k (up_by m) (phi_by m images)
  pub themselves : (u : ℕ) → phi_by m images ((up_by m).terminal u) ≡ (up_by m).terminal u
  pub live : IsLive k
