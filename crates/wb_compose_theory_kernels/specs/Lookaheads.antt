-- The lookaheads of a union, from those of the certified grammars.
use Rattle.std.specs.Prelude.{◌≡◌, ◌↔◌, ℕ, List, Some, length, slice_get}
use Rattle.wb_base.specs.declared.symbol.Symbol.{Symbol}
use Rattle.wb_base.specs.declared.symbol.Symbol.TheVariants.{Terminal}
use Rattle.wb_base.specs.Grammar.{GrammarView}
use Rattle.wb_grammar_theory.specs.declared.item.Item.{Item}
use Rattle.wb_grammar_theory.specs.Items.{HasItem, IsKernelItem, initial_item}
use Rattle.wb_grammar_theory.specs.Lookaheads.{IsLookahead}
use Rattle.wb_compose_theory.specs.Homes.{Home, IsListed, of, of_host}
use Rattle.wb_compose_theory.specs.Renamings.{renamed_item}
use Rattle.wb_compose_theory.specs.Worlds.{on}
use Rattle.wb_compose_theory_grammar.specs.Pieces.{Piece}
use Rattle.wb_compose_theory_grammar.specs.UnitedWorlds.{united}
use Rattle.wb_compose_theory_kernels.specs.Kernels.{HasNoHole, HasOwnItem, IsItemFrom, IsTaken, KernelNumbers}
use Rattle.wb_compose_theory_kernels.specs.Parts.{IsHole, IsHoleProduction, grammar_at, hole_at, hole_production_at}
use Rattle.wb_compose_theory_kernels.specs.Parts.{into_union}

module _ (host : GrammarView) (extensible : List ℕ) (pieces : List Piece) where
  -- an item of the union stands for this one of a certified grammar: it is the same in the union's numbers, or it is the initial item of a
  -- bridge and the other that of the production of the hole on the bridge's nonterminal
  pub data StandsFor (home : Home) (item own : Item) : Type 0 where
    as_itself : ¬ IsHoleProduction host extensible pieces home own.production →
        item ≡ renamed_item (into_union host extensible pieces home) own → StandsFor home item own
    as_hole : (a e m : ℕ) (piece : Piece) → slice_get pieces e ≡ Some piece → piece.mark m ≡ on a →
        item ≡ initial_item ((into_union host extensible pieces (of e)).production (piece.bridge m)) →
        own ≡ initial_item (hole_production_at host extensible pieces home a) → StandsFor home item own

  -- what a terminal of the certified grammar becomes in the union: one that is no hole stays, in the union's numbers, and a hole becomes
  -- each marker on its nonterminal, of each extension
  pub data Becomes (home : Home) (own t : ℕ) : Type 0 where
    itself : ¬ IsHole host extensible pieces home (Terminal own) → t ≡ (into_union host extensible pieces home).terminal own →
        Becomes home own t
    marker : (a e m : ℕ) (piece : Piece) → slice_get pieces e ≡ Some piece → piece.mark m ≡ on a →
        own ≡ hole_at host extensible pieces home a → t ≡ (into_union host extensible pieces (of e)).terminal m → Becomes home own t

  -- the terminal is what a lookahead becomes that the item's stand-in has at the prefix of the certified grammar
  pub record IsLookaheadFrom (home : Home) (other : List Symbol) (item : Item) (t : ℕ) : Type 0 where
    pub own : Item
    pub terminal : ℕ
    pub stands : StandsFor home item own
    pub becomes : Becomes home terminal t
    pub lookahead : IsLookahead (grammar_at host extensible pieces home) other own terminal

  -- the prefix of the union has, in the union's numbers, the kernel of the prefix of the certified grammar, which is none after a hole
  pub record HasKernelOf (prefix : List Symbol) (home : Home) (other : List Symbol) : Type 0 where
    pub listed : IsListed (length pieces) home
    pub no_hole : HasNoHole host extensible pieces home other
    pub items : (item : Item) → IsKernelItem (united host extensible pieces) prefix item ↔ IsItemFrom host extensible pieces home other item

  -- the lookaheads of an item of a prefix of the union: where the kernel is one of the host with holes, they are those from there; where it
  -- has an item of an extension, those from the host with that extension; and anywhere those from all certified grammars with the kernel
  pub record HasLocalLookaheads (prefix : List Symbol) (item : Item) : Type 0 where
    pub at_host : (other : List Symbol) → HasKernelOf prefix of_host other → (t : ℕ) →
        IsLookahead (united host extensible pieces) prefix item t ↔ IsLookaheadFrom of_host other item t
    pub at_extension : (e : ℕ) (other : List Symbol) → HasKernelOf prefix (of e) other → HasOwnItem host extensible pieces (of e) other →
        (t : ℕ) → IsLookahead (united host extensible pieces) prefix item t ↔ IsLookaheadFrom (of e) other item t
    pub anywhere : (t : ℕ) → IsLookahead (united host extensible pieces) prefix item t ↔
        ((home : Home) × (other : List Symbol) × HasKernelOf prefix home other × IsLookaheadFrom home other item t)

  -- each item of each prefix has them
  abbrev pub AreLookaheadsLocal : Type 0
  AreLookaheadsLocal =
      (prefix : List Symbol) (item : Item) → HasItem (united host extensible pieces) prefix item → HasLocalLookaheads prefix item

  -- by numbers of kernels: those from all numbers that are taken and have the kernel
  abbrev pub AreLookaheadsTaken : KernelNumbers → Type 0
  AreLookaheadsTaken numbers =
      (prefix : List Symbol) (item : Item) → HasItem (united host extensible pieces) prefix item → (t : ℕ) →
      IsLookahead (united host extensible pieces) prefix item t ↔
      ((home : Home) × (s : ℕ) × IsTaken host extensible pieces numbers home s × HasKernelOf prefix home (numbers.prefix_of home s) ×
      IsLookaheadFrom home (numbers.prefix_of home s) item t)
