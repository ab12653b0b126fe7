-- The kernels for which lines stand, by their numbers in the order of the lines, and the place of each.
use Rattle.std.specs.Prelude.{◌≡◌, ◌<◌, ℕ, List, Option, Some, None, Contains, length, slice_get}
use Rattle.wb_grammar_theory.specs.Items.{SameKernel}
use Rattle.wb_items.specs.Kernels.{KernelsView, count_of, prefix_of}
use Rattle.wb_recheck_theory.specs.declared.line.Line.{Line}
use Rattle.wb_recheck_theory.specs.Lines.{kernel_count, prefix_at}

-- the numbers, and how many kernels there are
pub record StatesView : Type 0 where
  pub states : List ℕ
  pub count : ℕ

-- each number is at one place, which is kept for it
pub record ArePlaces (states : List ℕ) (places : List (Option ℕ)) : Type 0 where
  pub below : (k s : ℕ) → slice_get states k ≡ Some s → s < length places
  pub there : (k s : ℕ) → slice_get states k ≡ Some s → slice_get places s ≡ Some (Some k)
  pub back : (k s : ℕ) → slice_get places s ≡ Some (Some k) → slice_get states k ≡ Some s

-- the number is at this place, or at none
abbrev pub HasPlace : List ℕ → ℕ → Option ℕ → Type 0
HasPlace states s None = ¬ Contains states s
HasPlace states s (Some k) = slice_get states k ≡ Some s

-- the numbers are those of the kernels for which the lines stand: each has the kernel of the prefix to which the lines lead there
pub record AreStatesOf (kernels : KernelsView) (lines : List Line) (states : List ℕ) : Type 0 where
  pub len : length states ≡ kernel_count lines
  pub below : (k s : ℕ) → slice_get states k ≡ Some s → s < count_of kernels
  pub same : (k s : ℕ) → slice_get states k ≡ Some s → SameKernel kernels.grammar (prefix_at lines k) (prefix_of kernels s)
