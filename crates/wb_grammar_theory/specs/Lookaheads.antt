-- Lookaheads of items, the actions that they allow, conflicts, and the terminals that are valid at a prefix.
use Rattle.std.specs.Prelude.{◌≡◌, ◌≢◌, ◌⊎◌, ℕ, List, [], ◌∷◌}
use Rattle.wb_base.specs.declared.symbol.Symbol.{Symbol}
use Rattle.wb_base.specs.declared.symbol.Symbol.TheVariants.{Terminal}
use Rattle.wb_base.specs.Grammar.{GrammarView}
use Rattle.wb_grammar_theory.specs.declared.item.Item.{Item}
use Rattle.wb_grammar_theory.specs.Items.{after_dot, IsValidItem, HasItem, SameKernel}

-- t is a lookahead of the item at the prefix: the item with t is valid for some prefix with the same kernel
abbrev pub IsLookahead : GrammarView → List Symbol → Item → ℕ → Type 0
IsLookahead g prefix item t = (other : List Symbol) × SameKernel g prefix other × IsValidItem g other item t

-- the terminal can be shifted at the prefix: some item there has its dot before it
pub record CanShift (g : GrammarView) (prefix : List Symbol) (t : ℕ) : Type 0 where
  pub item : Item
  pub rest : List Symbol
  pub has : HasItem g prefix item
  pub before_dot : after_dot g item ≡ Terminal t ∷ rest

-- the production can be reduced at the prefix before the terminal: its complete item there has the terminal as a lookahead. To reduce `S'
-- -> S` is to accept
pub record CanReduce (g : GrammarView) (prefix : List Symbol) (p t : ℕ) : Type 0 where
  pub item : Item
  pub production : item.production ≡ p
  pub complete : after_dot g item ≡ []
  pub has : HasItem g prefix item
  pub lookahead : IsLookahead g prefix item t

-- the terminal is valid at the prefix: it can be shifted, or is a lookahead of a complete item
abbrev pub IsValidTerminal : GrammarView → List Symbol → ℕ → Type 0
IsValidTerminal g prefix t = CanShift g prefix t ⊎ ((p : ℕ) × CanReduce g prefix p t)

-- a conflict at the prefix on the terminal: a shift and a reduction, or reductions by two different productions
abbrev pub HasConflict : GrammarView → List Symbol → ℕ → Type 0
HasConflict g prefix t =
    ((p : ℕ) × CanShift g prefix t × CanReduce g prefix p t) ⊎ ((p q : ℕ) × (p ≢ q) × CanReduce g prefix p t × CanReduce g prefix q t)

-- no prefix has a conflict
abbrev pub HasNoConflict : GrammarView → Type 0
HasNoConflict g = (prefix : List Symbol) (t : ℕ) → ¬ HasConflict g prefix t
