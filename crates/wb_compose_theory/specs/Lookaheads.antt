-- Lookaheads of items in a part of a world, the actions that they allow, conflicts, and the terminals that are valid at a prefix.
use Rattle.std.specs.Prelude.{◌≡◌, ◌≢◌, ◌⊎◌, ℕ, List, [], ◌∷◌}
use Rattle.wb_base.specs.declared.symbol.Symbol.{Symbol}
use Rattle.wb_base.specs.declared.symbol.Symbol.TheVariants.{Terminal}
use Rattle.wb_grammar_theory.specs.declared.item.Item.{Item}
use Rattle.wb_compose_theory.specs.Worlds.{World, Part}
use Rattle.wb_compose_theory.specs.Items.{after_dot_in, IsValidItemIn, HasItemIn, SameKernelIn}

-- t is a lookahead of the item at the prefix: the item with t is valid for some prefix of the part with the same kernel
abbrev pub IsLookaheadIn : World → Part → List Symbol → Item → ℕ → Type 0
IsLookaheadIn w part prefix item t = (other : List Symbol) × SameKernelIn w part prefix part other × IsValidItemIn w part other item t

-- the terminal can be shifted at the prefix: some item there has its dot before it
pub record CanShiftIn (w : World) (part : Part) (prefix : List Symbol) (t : ℕ) : Type 0 where
  pub item : Item
  pub rest : List Symbol
  pub has : HasItemIn w part prefix item
  pub before_dot : after_dot_in w item ≡ Terminal t ∷ rest

-- the production can be reduced at the prefix before the terminal: its complete item there has the terminal as a lookahead
pub record CanReduceIn (w : World) (part : Part) (prefix : List Symbol) (p t : ℕ) : Type 0 where
  pub item : Item
  pub production : item.production ≡ p
  pub complete : after_dot_in w item ≡ []
  pub has : HasItemIn w part prefix item
  pub lookahead : IsLookaheadIn w part prefix item t

-- the terminal is valid at the prefix: it can be shifted, or is a lookahead of a complete item
abbrev pub IsValidTerminalIn : World → Part → List Symbol → ℕ → Type 0
IsValidTerminalIn w part prefix t = CanShiftIn w part prefix t ⊎ ((p : ℕ) × CanReduceIn w part prefix p t)

-- a conflict at the prefix on the terminal: a shift and a reduction, or reductions by two different productions
abbrev pub HasConflictIn : World → Part → List Symbol → ℕ → Type 0
HasConflictIn w part prefix t =
    ((p : ℕ) × CanShiftIn w part prefix t × CanReduceIn w part prefix p t) ⊎
    ((p q : ℕ) × (p ≢ q) × CanReduceIn w part prefix p t × CanReduceIn w part prefix q t)

-- no prefix of the part has a conflict
abbrev pub HasNoConflictIn : World → Part → Type 0
HasNoConflictIn w part = (prefix : List Symbol) (t : ℕ) → ¬ HasConflictIn w part prefix t
