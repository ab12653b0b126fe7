-- The kernels after markers as they are found.
use Rattle.std.specs.Prelude.{◌≡◌, ◌≢◌, ◌<◌, ◌++◌, ◌∷◌, [], ℕ, List, Option, Some, Contains, slice_get}
use Rattle.wb_base.specs.declared.symbol.Symbol.{Symbol}
use Rattle.wb_base.specs.declared.symbol.Symbol.TheVariants.{Terminal}
use Rattle.wb_base.specs.Grammar.{GrammarView}
use Rattle.wb_grammar_theory.specs.Items.{IsViablePrefix}
use Rattle.wb_items.specs.Kernels.{KernelsView, count_of}
use Rattle.wb_determinism_kernels.specs.declared.numbers.Numbers.{Numbers}
use Rattle.wb_determinism_kernels.specs.declared.starts.Start.{Start}
use Rattle.wb_determinism_kernels.specs.NewKernels.{IndexView, IsStart, prefixes_beside}
use Rattle.wb_determinism_kernels.specs.Numbers.{phi_by, up_by}
use Rattle.wb_determinism_kernels.specs.Inner.Growing.{AreFoundSoFar}

-- each start is one, and there is one for each of the first terminals that is a marker and somewhere after a prefix of the host
pub record AreStarted (host : KernelsView) (k : GrammarView) (m : Numbers) (images : List (Option ℕ)) (found : IndexView)
    (starts : List Start) (n : ℕ) : Type 0 where
  pub so_far : AreFoundSoFar host k (up_by m) found
  pub starts_are : (i : ℕ) (start : Start) → slice_get starts i ≡ Some start →
      IsStart host k m images (prefixes_beside (up_by m) host found.steps) start
  pub started : (marker s : ℕ) (prefix : List Symbol) → marker < n → s < count_of host →
      slice_get (prefixes_beside (up_by m) host found.steps) s ≡ Some prefix → phi_by m images marker ≢ marker →
      IsViablePrefix k (prefix ++ Terminal marker ∷ []) → (start : Start) × Contains starts start × (start.marker ≡ marker)
