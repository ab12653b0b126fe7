-- Items that get the sets of what flows to them.
use Rattle.std.specs.Prelude.{◌≡◌, ◌⊎◌, ◌↔◌, ◌<◌, ◌+◌, ◌^◌, ℕ, Bool, List, Some, length, slice_get}
use Rattle.wb_termset.specs.Sets.{IsMember}
use Rattle.wb_grammar_theory.specs.declared.item.Item.{Item}
use Rattle.wb_items.specs.Kernels.{KernelsView, closure_of}
use Rattle.wb_items.specs.Lookaheads.{AreLookaheadsOf, Lists, LookaheadsView, set_of}
use Rattle.wb_digraph.specs.Inner.Links.{FlowsIn}
use Rattle.wb_digraph.specs.Inner.Pools.{AreNumbers, set_at}

-- each number of an item has that of the set of what flows to the item
pub record HoldFlows (kernels : KernelsView) (Number : ℕ → Item → ℕ → Type 0) (numbers : List ℕ) (sets : List (List Bool)) : Type 0 where
  pub within : (s : ℕ) (item : Item) (n : ℕ) → Number s item n → n < length numbers
  pub below : AreNumbers sets numbers
  pub exact : (s : ℕ) (item : Item) (n m t : ℕ) → Number s item n → slice_get numbers n ≡ Some m →
      IsMember (set_at sets m) t ↔ FlowsIn kernels s item t

-- the sets come after the first set of the lookaheads
pub record HoldsSets (sets : List (List Bool)) (lookaheads : LookaheadsView) : Type 0 where
  pub len : length lookaheads.sets ≡ length sets + 1
  pub same : (n : ℕ) → n < length sets → set_of lookaheads (n + 1) ≡ set_at sets n

-- the same of the sets after the first of the lookaheads
pub record HoldFlowsLater (kernels : KernelsView) (Number : ℕ → Item → ℕ → Type 0) (numbers : List ℕ) (lookaheads : LookaheadsView) : Type 0
  where
    pub room : length lookaheads.sets < 2 ^ 64
    pub within : (s : ℕ) (item : Item) (n : ℕ) → Number s item n → n < length numbers
    pub below : (n m : ℕ) → slice_get numbers n ≡ Some m → m + 1 < length lookaheads.sets
    pub exact : (s : ℕ) (item : Item) (n m t : ℕ) → Number s item n → slice_get numbers n ≡ Some m →
        IsMember (set_of lookaheads (m + 1)) t ↔ FlowsIn kernels s item t

-- at the items of the first kernels, and of the kernel s at those at the first places, is listed exactly what flows to them
pub record AreFilledUpTo (kernels : KernelsView) (s place : ℕ) (lookaheads : LookaheadsView) : Type 0 where
  pub shape : AreLookaheadsOf kernels lookaheads
  pub exact : (k j : ℕ) (item : Item) (t : ℕ) → (k < s) ⊎ ((k ≡ s) × (j < place)) → slice_get (closure_of kernels k) j ≡ Some item →
      Lists lookaheads k item t ↔ FlowsIn kernels k item t
