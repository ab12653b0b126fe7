-- The numbers of lists as moves are made of them.
use Rattle.std.specs.Prelude.{◌≡◌, ℕ, List, Some, Contains, length, slice_get}
use Rattle.wb_base.specs.declared.symbol.Symbol.{Symbol}
use Rattle.wb_base.specs.declared.symbol.Symbol.TheVariants.{Terminal}
use Rattle.wb_items.specs.Kernels.{count_of}
use Rattle.wb_compose_kernels.specs.declared.marks.Mark.{Mark}
use Rattle.wb_compose_kernels.specs.declared.splice.Splice.{Splice}
use Rattle.wb_compose_kernels.specs.Inner.Counts.{new_count_at}

-- a number for each kernel of the host, and for each new kernel of each extension
pub record AreNumbersOf (s : Splice) (host : List ℕ) (new : List (List ℕ)) : Type 0 where
  pub of_host : length host ≡ count_of s.kernels.now
  pub len : length new ≡ length s.parts.now
  pub each : (e : ℕ) (numbers : List ℕ) → slice_get new e ≡ Some numbers → length numbers ≡ new_count_at s e

-- the move over a marker that stands for the hole
abbrev pub IsMarkedBy : List Mark → ℕ → ℕ → (ℕ × Symbol × ℕ) → Type 0
IsMarkedBy marks hole u m =
    (mark : Mark) × Contains marks mark × (mark.hole ≡ hole) × (m ≡ (u, Terminal mark.terminal, mark.number))
