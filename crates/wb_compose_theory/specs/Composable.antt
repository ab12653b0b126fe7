-- What is certified of the grammar of a host, and of an extension beside that host alone: the lookahead rule and the envelope rule.
use Rattle.std.specs.Prelude.{◌≡◌, ◌≢◌, ◌⊎◌, ℕ, List, [], ◌∷◌}
use Rattle.wb_base.specs.declared.symbol.Symbol.{Symbol}
use Rattle.wb_base.specs.declared.symbol.Symbol.TheVariants.{Terminal}
use Rattle.wb_grammar_theory.specs.declared.item.Item.{Item}
use Rattle.wb_compose_theory.specs.Worlds.{World, Part, plain, plus, alone, both, extension}
use Rattle.wb_compose_theory.specs.Marks.{phi}
use Rattle.wb_compose_theory.specs.Derives.{IsReducedIn, HasNoUnitCycleIn, HasNoHiddenLeftRecursionIn}
use Rattle.wb_compose_theory.specs.Items.{after_dot_in, IsKernelItemIn, SameKernelIn, InClosureIn}
use Rattle.wb_compose_theory.specs.Lookaheads.{IsLookaheadIn, HasNoConflictIn}

-- t is a lookahead of the item in the envelope of the set: one of its lookaheads, in the host with holes, at some prefix whose kernel
-- contains the set
abbrev pub IsEnvelopeLookaheadIn : World → (Item → Type 0) → Item → ℕ → Type 0
IsEnvelopeLookaheadIn w Kernel item t =
    (prefix : List Symbol) × ((i : Item) → Kernel i → IsKernelItemIn w plus prefix i) × IsLookaheadIn w plus prefix item t

-- the terminal can be shifted at the set: an item that the set has by productions of the host with holes has its dot before it
pub record CanShiftInEnvelopeIn (w : World) (Kernel : Item → Type 0) (t : ℕ) : Type 0 where
  pub item : Item
  pub rest : List Symbol
  pub within : InClosureIn w plus Kernel item
  pub before_dot : after_dot_in w item ≡ Terminal t ∷ rest

-- the production can be reduced at the set before the terminal: its complete item has the terminal as a lookahead in the envelope
pub record CanReduceInEnvelopeIn (w : World) (Kernel : Item → Type 0) (p t : ℕ) : Type 0 where
  pub item : Item
  pub production : item.production ≡ p
  pub complete : after_dot_in w item ≡ []
  pub within : InClosureIn w plus Kernel item
  pub lookahead : IsEnvelopeLookaheadIn w Kernel item t

-- the terminal is valid at the set, with the envelope in the place of lookaheads
abbrev pub IsValidInEnvelopeIn : World → (Item → Type 0) → ℕ → Type 0
IsValidInEnvelopeIn w Kernel t = CanShiftInEnvelopeIn w Kernel t ⊎ ((p : ℕ) × CanReduceInEnvelopeIn w Kernel p t)

-- a conflict at the set on the terminal, with the envelope in the place of lookaheads
abbrev pub HasEnvelopeConflictIn : World → (Item → Type 0) → ℕ → Type 0
HasEnvelopeConflictIn w Kernel t =
    ((p : ℕ) × CanShiftInEnvelopeIn w Kernel t × CanReduceInEnvelopeIn w Kernel p t) ⊎
    ((p q : ℕ) × (p ≢ q) × CanReduceInEnvelopeIn w Kernel p t × CanReduceInEnvelopeIn w Kernel q t)

-- the kernel of the prefix, in the host with holes and the extension, holds no item of the extension and is the kernel of no prefix of the
-- host with holes
pub record IsNewHostKernelIn (w : World) (e : ℕ) (prefix : List Symbol) : Type 0 where
  pub within : (item : Item) → IsKernelItemIn w (both e) prefix item → w.production_owner item.production ≢ extension e
  pub is_new : (other : List Symbol) → ¬ SameKernelIn w plus other (both e) prefix

-- the lookahead rule: at each kernel of the host with holes, what an item's lookaheads with the extension become by phi is among its
-- lookaheads without it
abbrev pub KeepsLookaheadsIn : World → ℕ → Type 0
KeepsLookaheadsIn w e =
    (prefix : List Symbol) (item : Item) (t : ℕ) → IsKernelItemIn w plus prefix item → IsLookaheadIn w (both e) prefix item t →
    IsLookaheadIn w plus prefix item (phi w t)

-- the envelope rule: at each new kernel of host items, what an item's lookaheads become by phi is in the envelope, and the envelope has no
-- conflict
pub record StaysInEnvelopeIn (w : World) (e : ℕ) : Type 0 where
  pub lookaheads : (prefix : List Symbol) → IsNewHostKernelIn w e prefix → (item : Item) (t : ℕ) →
      InClosureIn w plus (IsKernelItemIn w (both e) prefix) item → IsLookaheadIn w (both e) prefix item t →
      IsEnvelopeLookaheadIn w (IsKernelItemIn w (both e) prefix) item (phi w t)
  pub no_conflict : (prefix : List Symbol) → IsNewHostKernelIn w e prefix → (t : ℕ) →
      ¬ HasEnvelopeConflictIn w (IsKernelItemIn w (both e) prefix) t

-- a part without holes is reduced, and with holes it has no unit cycle and no hidden left recursion
pub record IsFitForParsingIn (w : World) (part with_holes : Part) : Type 0 where
  pub reduced : IsReducedIn w part
  pub no_unit_cycle : HasNoUnitCycleIn w with_holes
  pub no_hidden_left_recursion : HasNoHiddenLeftRecursionIn w with_holes

-- the host is fit for parsing, and has no conflict with its holes
pub record IsComposableHostIn (w : World) : Type 0 where
  pub fit : IsFitForParsingIn w plain plus
  pub no_conflict : HasNoConflictIn w plus

-- the host with the extension is fit for parsing, has no conflict with holes, and the extension meets the lookahead and envelope rules
pub record IsComposableExtensionIn (w : World) (e : ℕ) : Type 0 where
  pub fit : IsFitForParsingIn w (alone e) (both e)
  pub no_conflict : HasNoConflictIn w (both e)
  pub keeps_lookaheads : KeepsLookaheadsIn w e
  pub stays_in_envelope : StaysInEnvelopeIn w e
