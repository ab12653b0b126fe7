-- The valid terminals of one kernel as they are found, item by item: those that are shifted, and those before which an item reduces.
use Rattle.std.specs.Prelude.{◌≡◌, ◌⊎◌, ◌↔◌, ◌<◌, ◌+◌, ℕ, Bool, List, [], ◌∷◌, length, false, replicate, Some, slice_get, slice_index_or}
use Rattle.wb_base.specs.declared.symbol.Symbol.{Symbol}
use Rattle.wb_base.specs.declared.symbol.Symbol.TheVariants.{Terminal}
use Rattle.wb_termset.specs.Sets.{IsMember, Intersects}
use Rattle.wb_grammar_theory.specs.declared.item.Item.{Item}
use Rattle.wb_grammar_theory.specs.Items.{after_dot}
use Rattle.wb_grammar_theory.specs.Lookaheads.{HasConflict, IsLookahead}
use Rattle.wb_items.specs.Kernels.{KernelsView, closure_of, count_of, prefix_of}
use Rattle.wb_lookahead.specs.declared.valid.Sets.{Sets}
use Rattle.wb_lookahead.specs.Tables.{IsValidSet}

-- the prefix of the kernel has a conflict
abbrev pub HasConflictAt : KernelsView → ℕ → Type 0
HasConflictAt kernels s = (t : ℕ) × HasConflict kernels.grammar (prefix_of kernels s) t

-- the members of the set are the terminals that are valid at the kernel, whose prefix has no conflict
pub record IsClearSet (kernels : KernelsView) (s : ℕ) (set : List Bool) : Type 0 where
  pub valid : IsValidSet kernels s set
  pub clear : ¬ HasConflictAt kernels s

-- the sets are those of the first kernels, none of which has a conflict
pub record AreClearUpTo (kernels : KernelsView) (sets : List (List Bool)) (n : ℕ) : Type 0 where
  pub len : length sets ≡ n
  pub each : (s : ℕ) → s < n → IsClearSet kernels s (slice_index_or sets s [])

-- the item has its dot before the terminal
abbrev pub Shifts : KernelsView → Item → ℕ → Type 0
Shifts kernels item t = (rest : List Symbol) × (after_dot kernels.grammar item ≡ Terminal t ∷ rest)

-- the item is complete, and the terminal is one of its lookaheads at the kernel
abbrev pub Reduces : KernelsView → ℕ → Item → ℕ → Type 0
Reduces kernels s item t = (after_dot kernels.grammar item ≡ []) × IsLookahead kernels.grammar (prefix_of kernels s) item t

-- one of the first items of the kernel shifts the terminal
pub record IsShifted (kernels : KernelsView) (s n t : ℕ) : Type 0 where
  pub place : ℕ
  pub item : Item
  pub below : place < n
  pub at : slice_get (closure_of kernels s) place ≡ Some item
  pub shifts : Shifts kernels item t

-- one of the first items of the kernel reduces before the terminal
pub record IsReduced (kernels : KernelsView) (s n t : ℕ) : Type 0 where
  pub place : ℕ
  pub item : Item
  pub below : place < n
  pub at : slice_get (closure_of kernels s) place ≡ Some item
  pub reduces : Reduces kernels s item t

-- no two of the first items of the kernel reduce before one terminal
abbrev pub AreApart : KernelsView → ℕ → ℕ → Type 0
AreApart kernels s n =
    (i j t : ℕ) (one other : Item) → i < j → j < n → slice_get (closure_of kernels s) i ≡ Some one
    → slice_get (closure_of kernels s) j ≡ Some other → Reduces kernels s one t → ¬ Reduces kernels s other t

-- the sets are of what the first items of the kernel shift, and of that before which they reduce, no two before one terminal
pub record SetsUpTo (kernels : KernelsView) (s n : ℕ) (sets : Sets) : Type 0 where
  pub shifted_len : length sets.shifted ≡ kernels.grammar.terminals + 1
  pub reduced_len : length sets.reduced ≡ kernels.grammar.terminals + 1
  pub shifted : (t : ℕ) → IsMember sets.shifted t ↔ IsShifted kernels s n t
  pub reduced : (t : ℕ) → IsMember sets.reduced t ↔ IsReduced kernels s n t
  pub apart : AreApart kernels s n

-- both sets are empty, with room for so many terminals
pub record AreEmpty (count : ℕ) (sets : Sets) : Type 0 where
  pub shifted : sets.shifted ≡ replicate count false
  pub reduced : sets.reduced ≡ replicate count false

-- the sets are those of all items of the kernel, and have no common member
pub record AreSetsOf (kernels : KernelsView) (s : ℕ) (sets : Sets) : Type 0 where
  pub all : SetsUpTo kernels s (length (closure_of kernels s)) sets
  pub disjoint : ¬ Intersects sets.shifted sets.reduced

-- what the item shifts was added, and that before which it reduces, none of which was there
pub record AddsActions (kernels : KernelsView) (s : ℕ) (item : Item) (old new : Sets) : Type 0 where
  pub shifted_len : length new.shifted ≡ length old.shifted
  pub reduced_len : length new.reduced ≡ length old.reduced
  pub shifted : (t : ℕ) → IsMember new.shifted t ↔ (IsMember old.shifted t ⊎ Shifts kernels item t)
  pub reduced : (t : ℕ) → IsMember new.reduced t ↔ (IsMember old.reduced t ⊎ Reduces kernels s item t)
  pub fresh : (t : ℕ) → Reduces kernels s item t → ¬ IsMember old.reduced t

-- the item reduces before a terminal that is in the set of these already
pub record Meets (kernels : KernelsView) (s : ℕ) (item : Item) (sets : Sets) : Type 0 where
  pub terminal : ℕ
  pub has : IsMember sets.reduced terminal
  pub reduces : Reduces kernels s item terminal
