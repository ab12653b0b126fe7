-- Envelopes of a set of items, as sets of terminals.
use Rattle.std.specs.Prelude.{◌≡◌, ◌↔◌, ◌⊎◌, ◌<◌, ◌+◌, ◌++◌, ◌∷◌, [], ℕ, List, All, length, Contains}
use Rattle.wb_base.specs.Grammar.{GrammarView}
use Rattle.wb_grammar_theory.specs.declared.item.Item.{Item}
use Rattle.wb_grammar_theory.specs.Closure.{InClosure}
use Rattle.wb_grammar_theory.specs.Items.{IsKernelItem}
use Rattle.wb_grammar_theory.specs.Lookaheads.{IsLookahead}
use Rattle.wb_items.specs.declared.item_lookahead.ItemLookahead.{ItemLookahead}
use Rattle.wb_items.specs.Kernels.{KernelsView, count_of, prefix_of}
use Rattle.wb_items.specs.Lookaheads.{items_in}
use Rattle.wb_termset.specs.Sets.{IsMember}
use Rattle.wb_compose_theory.specs.Numbered.{IsEnvelopeLookahead}
use Rattle.wb_determinism.specs.declared.context.Context.{Context}
use Rattle.wb_determinism.specs.Numbers.{item_up}
use Rattle.wb_determinism.specs.Inner.Contexts.{HasImage, both_of, host_of}

-- the kernel of this number has all these items
abbrev pub HasAll : KernelsView → List Item → ℕ → Type 0
HasAll kernels own s = (s < count_of kernels) × ((i : Item) → Contains own i → IsKernelItem kernels.grammar (prefix_of kernels s) i)

-- the numbers of all kernels that have all these items
abbrev pub AreContaining : KernelsView → List Item → List ℕ → Type 0
AreContaining kernels own list = (s : ℕ) → Contains list s ↔ HasAll kernels own s

-- the kernel's number comes after the others where it has all these items, and else they stay as they are
abbrev pub AddsContaining : KernelsView → List Item → ℕ → List ℕ → List ℕ → Type 0
AddsContaining kernels own s old new = (HasAll kernels own s × (new ≡ old ++ s ∷ [])) ⊎ ((¬ HasAll kernels own s) × (new ≡ old))

-- the set has room for the terminals and the end of a text, and its members are the item's lookaheads in the envelope
pub record IsEnvelopeSet (g : GrammarView) (own : List Item) (looks : ItemLookahead) : Type 0 where
  pub len : length looks.set ≡ g.terminals + 1
  pub each : (t : ℕ) → IsMember looks.set t ↔ IsEnvelopeLookahead g (Contains own) looks.item t

-- the items of the closure, each with its lookaheads in the envelope
pub record IsEnvelopeRow (g : GrammarView) (own : List Item) (row : List ItemLookahead) : Type 0 where
  pub items : (item : Item) → Contains (items_in row) item ↔ InClosure g (Contains own) item
  pub sets : All (IsEnvelopeSet g own) row

-- the item comes after the others, with its lookaheads in the envelope
pub record AddsEntry (g : GrammarView) (own : List Item) (item : Item) (old new : List ItemLookahead) : Type 0 where
  pub looks : ItemLookahead
  pub of_item : looks.item ≡ item
  pub envelope : IsEnvelopeSet g own looks
  pub after : new ≡ old ++ looks ∷ []

-- the items are, in the extended host's numbers, in the kernel of this number
abbrev pub AreInKernel : Context → ℕ → List Item → Type 0
AreInKernel c s own = (i : Item) → Contains own i → IsKernelItem (both_of c) (prefix_of c.both.now s) (item_up c.numbers.now i)

-- each lookahead of the item at the kernel of this number stands for one in the envelope
abbrev pub KeepsLooks : Context → List Item → ℕ → Item → Type 0
KeepsLooks c own s item =
    (t : ℕ) → IsLookahead (both_of c) (prefix_of c.both.now s) (item_up c.numbers.now item) t
    → (u : ℕ) × HasImage c.images.now t u × IsEnvelopeLookahead (host_of c) (Contains own) item u

-- so of each item of the closure
abbrev pub KeepsRow : Context → List Item → ℕ → Type 0
KeepsRow c own s = (item : Item) → InClosure (host_of c) (Contains own) item → KeepsLooks c own s item

-- the terminal is a lookahead of the item, which is one of the closure, and stands for none in the envelope
pub record IsRowFault (c : Context) (own : List Item) (s : ℕ) (shown : Item) (t : ℕ) : Type 0 where
  pub item : Item
  pub is : shown ≡ item_up c.numbers.now item
  pub within : InClosure (host_of c) (Contains own) item
  pub lookahead : IsLookahead (both_of c) (prefix_of c.both.now s) shown t
  pub beyond : (u : ℕ) → HasImage c.images.now t u → ¬ IsEnvelopeLookahead (host_of c) (Contains own) item u
