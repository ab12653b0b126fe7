-- Kernels of a host with an extension: those of the host, those with an item of the extension, and those that are neither.
use Rattle.std.specs.Prelude.{◌≡◌, ◌≢◌, ◌<◌, ℕ, List, Some, length, slice_get}
use Rattle.wb_base.specs.declared.symbol.Symbol.{Symbol}
use Rattle.wb_base.specs.Grammar.{GrammarView}
use Rattle.wb_grammar_theory.specs.declared.item.Item.{Item}
use Rattle.wb_grammar_theory.specs.Items.{IsKernelItem}
use Rattle.wb_items.specs.Kernels.{KernelsView, count_of, prefix_of}
use Rattle.wb_compose_theory.specs.Numbered.{IsHostKernel, IsNewHostKernel}
use Rattle.wb_determinism.specs.declared.numbers.Numbers.{Numbers}
use Rattle.wb_determinism.specs.declared.regions.Region.{Region}
use Rattle.wb_determinism.specs.declared.regions.Region.TheVariants.{Host, Extension, NewHost}
use Rattle.wb_determinism.specs.Numbers.{item_up, up_by}

-- the item is no host's
abbrev pub IsForeign : Numbers → Item → Type 0
IsForeign m item = (own : Item) → item ≢ item_up m own

-- g is a host's grammar and k that of the host with an extension, both with holes
module _ (g k : GrammarView) (m : Numbers) where
  -- the kernel has an item of the extension
  pub record IsExtensionKernel (both : List Symbol) : Type 0 where
    pub item : Item
    pub has : IsKernelItem k both item
    pub foreign : IsForeign m item

-- the region is that of the extended host's kernel of this number: the host's kernel that it is, by its number there; or an extension's; or
-- a new one with the host's items alone
abbrev pub IsRegion : KernelsView → KernelsView → Numbers → ℕ → Region → Type 0
IsRegion host both m s (Host other) =
    (other < count_of host) × IsHostKernel host.grammar both.grammar (up_by m) (prefix_of both s) (prefix_of host other)
IsRegion host both m s Extension = IsExtensionKernel host.grammar both.grammar m (prefix_of both s)
IsRegion host both m s NewHost = IsNewHostKernel host.grammar both.grammar (up_by m) (prefix_of both s)

-- a region for each of the first so many kernels
pub record AreRegions (host both : KernelsView) (m : Numbers) (count : ℕ) (regions : List Region) : Type 0 where
  pub len : length regions ≡ count
  pub each : (s : ℕ) (region : Region) → slice_get regions s ≡ Some region → IsRegion host both m s region
