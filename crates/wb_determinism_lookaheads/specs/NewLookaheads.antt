-- Lookaheads at the kernels of a host with an extension that are none of the host's.
use Rattle.std.specs.Prelude.{◌≡◌, ◌≢◌, ◌↔◌, ◌+◌, ◌<◌, ◌∷◌, [], ℕ, Bool, List, Option, Some, length, slice_get, slice_index_or}
use Rattle.wb_base.specs.declared.symbol.Symbol.{Symbol}
use Rattle.wb_base.specs.declared.symbol.Symbol.TheVariants.{Terminal}
use Rattle.wb_base.specs.Grammar.{GrammarView}
use Rattle.wb_termset.specs.Sets.{IsMember}
use Rattle.wb_grammar_theory.specs.declared.item.Item.{Item}
use Rattle.wb_grammar_theory.specs.Items.{after_dot}
use Rattle.wb_grammar_theory.specs.Lookaheads.{IsLookahead}
use Rattle.wb_items.specs.Apart.{BelongTogether}
use Rattle.wb_items.specs.Kernels.{KernelsView, count_of}
use Rattle.wb_compose_theory.specs.Numbered.{KeepsKernelLookaheads}
use Rattle.wb_compose_theory.specs.Renamings.{Renaming}
use Rattle.wb_determinism_kernels.specs.declared.numbers.Numbers.{Numbers}
use Rattle.wb_determinism_kernels.specs.NewKernels.{NewKernelsView, prefix_with}
use Rattle.wb_determinism_kernels.specs.Numbers.{phi_by, up_by}

-- for each new kernel items that have a set, and their sets; an item stands for itself, or for all initial items of its nonterminal
pub record NewLookaheadsView : Type 0 where
  pub slots : List (List Item)
  pub sets : List (List (List Bool))

-- the items of a new kernel that have a set
abbrev pub slots_of : NewLookaheadsView → ℕ → List Item
slots_of sets i = slice_index_or sets.slots i []

-- the set at a place of a new kernel
abbrev pub set_at : NewLookaheadsView → ℕ → ℕ → List Bool
set_at sets i j = slice_index_or (slice_index_or sets.sets i []) j []

-- at the new kernel the terminal is in the set of an item that is this one, or that the same nonterminal opens
abbrev pub Lists : GrammarView → NewLookaheadsView → ℕ → Item → ℕ → Type 0
Lists k sets i item t =
    (j : ℕ) × (one : Item) × (slice_get (slots_of sets i) j ≡ Some one) × BelongTogether k one item × IsMember (set_at sets i j) t

-- no two items of the host have their dots before one hole, for which a marker stands
abbrev pub AreHolesAlone : GrammarView → Renaming → (ℕ → ℕ) → Type 0
AreHolesAlone g up phi =
    (m h : ℕ) (i j : Item) (rest more : List Symbol) → phi m ≢ m → up.terminal h ≡ phi m → after_dot g i ≡ Terminal h ∷ rest →
    after_dot g j ≡ Terminal h ∷ more → i ≡ j

-- at each new kernel the sets list the lookaheads of each item and nothing else; and at the host's kernels no item has a lookahead that
-- isn't known there
pub record AreNewLookaheads (host : KernelsView) (k : GrammarView) (m : Numbers) (images : List (Option ℕ)) (new : NewKernelsView)
    (sets : NewLookaheadsView) : Type 0 where
  pub len : length sets.slots ≡ length new.index.kernels
  pub widths : (i j : ℕ) (set : List Bool) → slice_get (slice_index_or sets.sets i []) j ≡ Some set → length set ≡ k.terminals + 1
  pub exact : (i : ℕ) → i < length new.index.steps → (item : Item) (t : ℕ) →
      Lists k sets i item t ↔ IsLookahead k (prefix_with host k m images new (count_of host + i)) item t
  pub rule : KeepsKernelLookaheads host.grammar k (up_by m) (phi_by m images)
