-- The lookaheads of a union, from those of the grammars that are certified apart.
use Rattle.std.specs.Prelude.{◌≡◌, ℕ, List}
use Rattle.wb_base.specs.declared.symbol.Symbol.{Symbol}
use Rattle.wb_grammar_theory.specs.declared.item.Item.{Item}
use Rattle.wb_grammar_theory.specs.Items.{initial_item}
use Rattle.wb_compose_theory.specs.Worlds.{World, on, plus, both, union}
use Rattle.wb_compose_theory.specs.Marks.{Each, IsBare, phi}
use Rattle.wb_compose_theory.specs.Items.{after_dot_in, IsKernelItemIn, SameKernelIn}
use Rattle.wb_compose_theory.specs.Lookaheads.{IsLookaheadIn, IsValidTerminalIn}
use Rattle.wb_compose_theory.specs.Composable.{IsNewHostKernelIn, IsValidInEnvelopeIn}
use Rattle.wb_compose_theory.specs.Homes.{Home, of, part_of, IsListed}

-- an item with no mark after its dot stands for itself, and the initial item of a mark's production for that of its hole's
pub data StandsFor (w : World) (i j : Item) : Type 0 where
  itself : Each (IsBare w) (after_dot_in w i) → j ≡ i → StandsFor w i j
  as_hole : (m a : ℕ) → w.mark m ≡ on a → i ≡ initial_item (w.production_of m) → j ≡ initial_item (w.production_of (w.hole_on a)) →
      StandsFor w i j

-- what the terminal becomes by phi is a lookahead of what the item stands for, in a certified grammar that has the kernel
pub record IsPartLookahead (w : World) (n : ℕ) (prefix : List Symbol) (i : Item) (t : ℕ) : Type 0 where
  pub home : Home
  pub listed : IsListed n home
  pub other : List Symbol
  pub item : Item
  pub stands : StandsFor w i item
  pub same : SameKernelIn w (union n) prefix (part_of home) other
  pub lookahead : IsLookaheadIn w (part_of home) other item (phi w t)

-- what the terminal becomes by phi is a lookahead of what the item stands for, in the host with holes
pub record IsHostLookahead (w : World) (prefix : List Symbol) (i : Item) (t : ℕ) : Type 0 where
  pub item : Item
  pub stands : StandsFor w i item
  pub lookahead : IsLookaheadIn w plus prefix item (phi w t)

-- what two terminals become by phi is nowhere valid together: not in a certified grammar that has the kernel, nor in the envelope of one
-- whose kernel is a new one of host items
pub record AreApart (w : World) (n : ℕ) (prefix : List Symbol) (t u : ℕ) : Type 0 where
  pub in_homes : (home : Home) → IsListed n home → (other : List Symbol) → SameKernelIn w (union n) prefix (part_of home) other →
      IsValidTerminalIn w (part_of home) other (phi w t) → ¬ IsValidTerminalIn w (part_of home) other (phi w u)
  pub in_envelopes : (e : ℕ) → IsListed n (of e) → (other : List Symbol) → SameKernelIn w (union n) prefix (both e) other →
      IsNewHostKernelIn w e other → IsValidInEnvelopeIn w (IsKernelItemIn w (both e) other) (phi w t) →
      ¬ IsValidInEnvelopeIn w (IsKernelItemIn w (both e) other) (phi w u)
