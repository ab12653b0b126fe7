-- What is certified in numbers, and the lookahead rule and the envelope rule: g is the grammar of a host with holes, k that of the host
-- with holes and an extension, `up` takes the numbers of g to those of k, and `phi` takes a terminal of k to itself, or a marker to the
-- hole of its nonterminal.
use Rattle.std.specs.Prelude.{◌≡◌, ◌≢◌, ◌↔◌, ◌⊎◌, ℕ, List, [], ◌∷◌, map}
use Rattle.wb_base.specs.declared.symbol.Symbol.{Symbol}
use Rattle.wb_base.specs.declared.symbol.Symbol.TheVariants.{Terminal}
use Rattle.wb_base.specs.Grammar.{GrammarView}
use Rattle.wb_grammar_theory.specs.declared.item.Item.{Item}
use Rattle.wb_grammar_theory.specs.Closure.{InClosure}
use Rattle.wb_grammar_theory.specs.Cycles.{HasNoUnitCycle, HasNoHiddenLeftRecursion}
use Rattle.wb_grammar_theory.specs.Items.{after_dot, IsKernelItem}
use Rattle.wb_grammar_theory.specs.Lookaheads.{IsLookahead, HasNoConflict}
use Rattle.wb_grammar_theory.specs.Shape.{IsReduced}
use Rattle.wb_compose_theory.specs.Renamings.{Renaming, renamed, renamed_item}

-- the items of g that are, in the numbers of k, in the kernel of the prefix of k
abbrev pub HostKernel : GrammarView → Renaming → List Symbol → Item → Type 0
HostKernel k up prefix item = IsKernelItem k prefix (renamed_item up item)

-- t is a lookahead of the item in the envelope of the set: one of its lookaheads in g at some prefix whose kernel contains the set
abbrev pub IsEnvelopeLookahead : GrammarView → (Item → Type 0) → Item → ℕ → Type 0
IsEnvelopeLookahead g Kernel item t =
    (prefix : List Symbol) × ((i : Item) → Kernel i → IsKernelItem g prefix i) × IsLookahead g prefix item t

-- the terminal can be shifted at the set: an item of its closure has its dot before it
pub record CanShiftInEnvelope (g : GrammarView) (Kernel : Item → Type 0) (t : ℕ) : Type 0 where
  pub item : Item
  pub rest : List Symbol
  pub within : InClosure g Kernel item
  pub before_dot : after_dot g item ≡ Terminal t ∷ rest

-- the production can be reduced at the set before the terminal: its complete item has the terminal as a lookahead in the envelope
pub record CanReduceInEnvelope (g : GrammarView) (Kernel : Item → Type 0) (p t : ℕ) : Type 0 where
  pub item : Item
  pub production : item.production ≡ p
  pub complete : after_dot g item ≡ []
  pub within : InClosure g Kernel item
  pub lookahead : IsEnvelopeLookahead g Kernel item t

-- the terminal is valid at the set, with the envelope in the place of lookaheads
abbrev pub IsValidInEnvelope : GrammarView → (Item → Type 0) → ℕ → Type 0
IsValidInEnvelope g Kernel t = CanShiftInEnvelope g Kernel t ⊎ ((p : ℕ) × CanReduceInEnvelope g Kernel p t)

-- a conflict at the set on the terminal, with the envelope in the place of lookaheads
abbrev pub HasEnvelopeConflict : GrammarView → (Item → Type 0) → ℕ → Type 0
HasEnvelopeConflict g Kernel t =
    ((p : ℕ) × CanShiftInEnvelope g Kernel t × CanReduceInEnvelope g Kernel p t) ⊎
    ((p q : ℕ) × (p ≢ q) × CanReduceInEnvelope g Kernel p t × CanReduceInEnvelope g Kernel q t)

-- the kernel of the prefix of k holds items of g alone, and is that of the other prefix, of g
pub record IsHostKernel (g k : GrammarView) (up : Renaming) (prefix other : List Symbol) : Type 0 where
  pub within : (item : Item) → IsKernelItem k prefix item → (i : Item) × (item ≡ renamed_item up i)
  pub same : (i : Item) → IsKernelItem g other i ↔ HostKernel k up prefix i

-- the kernel of the prefix of k holds items of g alone, and is the kernel of no prefix of g
pub record IsNewHostKernel (g k : GrammarView) (up : Renaming) (prefix : List Symbol) : Type 0 where
  pub within : (item : Item) → IsKernelItem k prefix item → (i : Item) × (item ≡ renamed_item up i)
  pub is_new : (other : List Symbol) → ¬ ((i : Item) → IsKernelItem g other i ↔ HostKernel k up prefix i)

-- the lookahead rule: at each kernel of g, what an item's lookaheads in k become by phi is among its lookaheads in g
abbrev pub KeepsLookaheads : (g k : GrammarView) → Renaming → (ℕ → ℕ) → Type 0
KeepsLookaheads g k up phi =
    (prefix : List Symbol) (item : Item) (t : ℕ) → IsKernelItem g prefix item →
    IsLookahead k (map (renamed up) prefix) (renamed_item up item) t →
    (u : ℕ) × (up.terminal u ≡ phi t) × IsLookahead g prefix item u

-- the lookahead rule by kernels: where the kernel of a prefix of k is that of a prefix of g, what an item's lookaheads in k become by phi
-- is among its lookaheads in g
abbrev pub KeepsKernelLookaheads : (g k : GrammarView) → Renaming → (ℕ → ℕ) → Type 0
KeepsKernelLookaheads g k up phi =
    (prefix other : List Symbol) (item : Item) (t : ℕ) → IsHostKernel g k up prefix other → IsKernelItem g other item →
    IsLookahead k prefix (renamed_item up item) t → (u : ℕ) × (up.terminal u ≡ phi t) × IsLookahead g other item u

-- the envelope rule: at each new kernel of host items, what an item's lookaheads in k become by phi is in the envelope, and the envelope
-- has no conflict
pub record StaysInEnvelope (g k : GrammarView) (up : Renaming) (phi : ℕ → ℕ) : Type 0 where
  pub lookaheads : (prefix : List Symbol) → IsNewHostKernel g k up prefix → (item : Item) (t : ℕ) →
      InClosure g (HostKernel k up prefix) item → IsLookahead k prefix (renamed_item up item) t →
      (u : ℕ) × (up.terminal u ≡ phi t) × IsEnvelopeLookahead g (HostKernel k up prefix) item u
  pub no_conflict : (prefix : List Symbol) → IsNewHostKernel g k up prefix → (t : ℕ) →
      ¬ HasEnvelopeConflict g (HostKernel k up prefix) t

-- with the extension and holes there is no conflict, and the extension meets the lookahead and envelope rules
pub record IsComposable (g k : GrammarView) (up : Renaming) (phi : ℕ → ℕ) : Type 0 where
  pub no_conflict : HasNoConflict k
  pub keeps_lookaheads : KeepsLookaheads g k up phi
  pub stays_in_envelope : StaysInEnvelope g k up phi

-- a grammar is reduced, and with holes it has no unit cycle and no hidden left recursion
pub record IsFit (grammar with_holes : GrammarView) : Type 0 where
  pub reduced : IsReduced grammar
  pub no_unit_cycle : HasNoUnitCycle with_holes
  pub no_hidden_left_recursion : HasNoHiddenLeftRecursion with_holes

-- a host's grammar is fit, and with holes it has no conflict
pub record IsComposableHost (grammar with_holes : GrammarView) : Type 0 where
  pub fit : IsFit grammar with_holes
  pub no_conflict : HasNoConflict with_holes
