-- Kernels of a host with holes and an extension by numbers: those of the host with holes first, then those that are found from markers on.
use Rattle.std.specs.Prelude.{◌<◌, ◌≤◌, ◌≡◌, ◌++◌, ◌∷◌, [], ℕ, List}
use Rattle.wb_base.specs.declared.symbol.Symbol.{Symbol}
use Rattle.wb_compose_theory.specs.Worlds.{World, plus, both}
use Rattle.wb_compose_theory.specs.Items.{IsViablePrefixIn, SameKernelIn}
use Rattle.wb_determinism_theory.specs.Known.{IsMarkerOf}

-- some number below the count has the kernel of the prefix
abbrev pub HasNumber : World → ℕ → ℕ → (ℕ → List Symbol) → List Symbol → Type 0
HasNumber w e count prefix_of prefix = (s : ℕ) × (s < count) × SameKernelIn w (both e) (prefix_of s) (both e) prefix

-- the first `own` numbers are the kernels of the host with holes, each at a prefix of it; there is a number for the kernel after a marker
-- of the extension at one of these, and for that after each symbol at one of the others
pub record AreReached (w : World) (e own count : ℕ) (prefix_of : ℕ → List Symbol) : Type 0 where
  pub within : own ≤ count
  pub host : (s : ℕ) → s < own → IsViablePrefixIn w plus (prefix_of s)
  pub all_host : (prefix : List Symbol) → IsViablePrefixIn w plus prefix →
      (s : ℕ) × (s < own) × SameKernelIn w plus (prefix_of s) plus prefix
  pub crossed : (s : ℕ) → s < own → (x : Symbol) → IsMarkerOf w e x → IsViablePrefixIn w (both e) (prefix_of s ++ x ∷ []) →
      HasNumber w e count prefix_of (prefix_of s ++ x ∷ [])
  pub onward : (s : ℕ) → own ≤ s → s < count → (x : Symbol) → IsViablePrefixIn w (both e) (prefix_of s ++ x ∷ []) →
      HasNumber w e count prefix_of (prefix_of s ++ x ∷ [])

-- no kernel has two numbers
abbrev pub AreOnce : World → ℕ → ℕ → (ℕ → List Symbol) → Type 0
AreOnce w e count prefix_of =
    (s s' : ℕ) → s < count → s' < count → SameKernelIn w (both e) (prefix_of s) (both e) (prefix_of s') → s ≡ s'
