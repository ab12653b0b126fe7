-- The envelope rule, in examples of where it fails: at a kernel that has the host's items alone and is none of the host's.
use Rattle.std.specs.Prelude.{◌≡◌, ◌<◌, ℕ, List, length}
use Rattle.wb_base.specs.declared.symbol.Symbol.{Symbol}
use Rattle.wb_base.specs.Grammar.{GrammarView}
use Rattle.wb_grammar_theory.specs.declared.item.Item.{Item}
use Rattle.wb_grammar_theory.specs.Closure.{InClosure}
use Rattle.wb_grammar_theory.specs.Productions.{top_of}
use Rattle.wb_grammar_theory.specs.Lookaheads.{IsLookahead}
use Rattle.wb_lookahead.specs.declared.action.Action.{Action}
use Rattle.wb_lookahead.specs.declared.action.Action.TheVariants as act
use Rattle.wb_lookahead.specs.declared.action.Action.TheVariants.{Shift, Reduce, Accept}
use Rattle.wb_lookahead.specs.Tables.{ComesBefore}
use Rattle.wb_compose_theory.specs.Numbered.{HostKernel, IsNewHostKernel, IsEnvelopeLookahead, CanShiftInEnvelope, CanReduceInEnvelope}
use Rattle.wb_determinism.specs.declared.numbers.Numbers.{Numbers}
use Rattle.wb_determinism.specs.Numbers.{item_up, production_up, terminal_up, up_by}

-- the action can be taken at the set with the envelope as lookaheads: to shift, wherever that leads; to reduce by a production of the host,
-- which is shown by its number with the extension; or to accept
abbrev pub CanActInEnvelope : GrammarView → Numbers → (Item → Type 0) → ℕ → Action → Type 0
CanActInEnvelope g m Kernel t (Shift _) = CanShiftInEnvelope g Kernel t
CanActInEnvelope g m Kernel t (Reduce shown) =
    (p : ℕ) × (p < length g.productions) × (shown ≡ production_up m p) × CanReduceInEnvelope g Kernel p t
CanActInEnvelope g m Kernel t Accept = CanReduceInEnvelope g Kernel (top_of g) t
CanActInEnvelope g m Kernel t act.None = ⊥

-- two actions can be taken at the set on the terminal, which is shown by its number with the extension
pub record HasShownConflict (g : GrammarView) (m : Numbers) (Kernel : Item → Type 0) (shown : ℕ) (first second : Action) : Type 0 where
  pub terminal : ℕ
  pub is : shown ≡ terminal_up m terminal
  pub first_can : CanActInEnvelope g m Kernel terminal first
  pub second_can : CanActInEnvelope g m Kernel terminal second
  pub in_order : ComesBefore first second

-- g is a host's grammar and k that of the host with an extension, both with holes; and the relation says for which terminal of g one of k
-- stands: a marker for a hole, and a host's for itself
module _ (g k : GrammarView) (m : Numbers) (StandsFor : ℕ → ℕ → Type 0) where
  -- the prefix has a new kernel of host's items, the item is one that the kernel has by the host's productions, and the terminal is a
  -- lookahead of the item there that stands for none in the envelope
  pub record IsEnvelopeLookaheadFault (prefix : List Symbol) (item : Item) (t : ℕ) : Type 0 where
    pub new : IsNewHostKernel g k (up_by m) prefix
    pub own : Item
    pub is : item ≡ item_up m own
    pub within : InClosure g (HostKernel k (up_by m) prefix) own
    pub lookahead : IsLookahead k prefix item t
    pub beyond : (u : ℕ) → StandsFor t u → ¬ IsEnvelopeLookahead g (HostKernel k (up_by m) prefix) own u

  -- the prefix has a new kernel of host's items, and with the envelope it has a conflict
  pub record IsEnvelopeConflictFault (prefix : List Symbol) (terminal : ℕ) (first second : Action) : Type 0 where
    pub new : IsNewHostKernel g k (up_by m) prefix
    pub conflict : HasShownConflict g m (HostKernel k (up_by m) prefix) terminal first second
