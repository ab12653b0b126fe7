-- Which kernels of a union hold items of an extension, in a world of names.
use Rattle.std.specs.Prelude.{◌≡◌, ℕ, List}
use Rattle.wb_base.specs.declared.symbol.Symbol.{Symbol}
use Rattle.wb_compose_theory.specs.Homes.{Home, part_of, IsListed}
use Rattle.wb_compose_theory.specs.Items.{IsKernelItemIn, IsViablePrefixIn, SameKernelIn}
use Rattle.wb_compose_theory.specs.Lookaheads.{IsValidTerminalIn}
use Rattle.wb_compose_theory.specs.Marks.{phi}
use Rattle.wb_compose_theory.specs.Worlds.{World, both, extension, union}
use Rattle.wb_grammar_theory.specs.declared.item.Item.{Item}

-- a certified grammar has at some prefix the kernel that the union has at this one
pub record HasHome (w : World) (n : ℕ) (prefix : List Symbol) : Type 0 where
  pub home : Home
  pub listed : IsListed n home
  pub other : List Symbol
  pub same : SameKernelIn w (union n) prefix (part_of home) other

-- the kernel of the union at the prefix holds an item of the extension
abbrev pub HoldsItemOf : World → ℕ → List Symbol → ℕ → Type 0
HoldsItemOf w n prefix e = (i : Item) × IsKernelItemIn w (union n) prefix i × (w.production_owner i.production ≡ extension e)

-- the terminal is, up to markers, valid in the grammar with the extension, at some prefix with the kernel that the union has at this one
abbrev pub IsValidWith : World → ℕ → List Symbol → ℕ → ℕ → Type 0
IsValidWith w n prefix e t =
    (other : List Symbol) × SameKernelIn w (union n) prefix (both e) other × IsValidTerminalIn w (both e) other (phi w t)

-- each prefix of the union has a home; a kernel of the union that holds an item of an extension holds none of another; and what is valid
-- there is valid with that extension
pub record HasHolders (w : World) (n : ℕ) : Type 0 where
  pub homes : (prefix : List Symbol) → IsViablePrefixIn w (union n) prefix → HasHome w n prefix
  pub one : (prefix : List Symbol) (e f : ℕ) → HoldsItemOf w n prefix e → HoldsItemOf w n prefix f → e ≡ f
  pub valid : (prefix : List Symbol) (e : ℕ) → HoldsItemOf w n prefix e → (t : ℕ) → IsValidTerminalIn w (union n) prefix t →
      IsValidWith w n prefix e t
