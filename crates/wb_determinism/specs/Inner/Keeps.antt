-- The lookahead rule and the envelope rule, where a relation says for which terminal of the host one of the extended host stands.
use Rattle.std.specs.Prelude.{ℕ, List}
use Rattle.wb_base.specs.declared.symbol.Symbol.{Symbol}
use Rattle.wb_base.specs.Grammar.{GrammarView}
use Rattle.wb_grammar_theory.specs.declared.item.Item.{Item}
use Rattle.wb_grammar_theory.specs.Closure.{InClosure}
use Rattle.wb_grammar_theory.specs.Items.{IsKernelItem}
use Rattle.wb_grammar_theory.specs.Lookaheads.{IsLookahead}
use Rattle.wb_compose_theory.specs.Numbered.{HostKernel, IsHostKernel, IsNewHostKernel, IsEnvelopeLookahead, HasEnvelopeConflict}
use Rattle.wb_determinism.specs.declared.numbers.Numbers.{Numbers}
use Rattle.wb_determinism.specs.Numbers.{item_up, up_by}

module _ (g k : GrammarView) (m : Numbers) (StandsFor : ℕ → ℕ → Type 0) where
  -- each lookahead that an item of a host's kernel has in k stands for one that it has in g
  abbrev pub KeepsHostLookaheads : Type 0
  KeepsHostLookaheads = (host both : List Symbol) (own : Item) (t : ℕ) → IsHostKernel g k (up_by m) both host → IsKernelItem g host own →
      IsLookahead k both (item_up m own) t → (u : ℕ) × StandsFor t u × IsLookahead g host own u

  -- at each new kernel of host's items, each lookahead that an item has in k stands for one in the envelope
  abbrev pub KeepsInEnvelope : Type 0
  KeepsInEnvelope = (prefix : List Symbol) (own : Item) (t : ℕ) → IsNewHostKernel g k (up_by m) prefix →
      InClosure g (HostKernel k (up_by m) prefix) own → IsLookahead k prefix (item_up m own) t →
      (u : ℕ) × StandsFor t u × IsEnvelopeLookahead g (HostKernel k (up_by m) prefix) own u

  -- at no new kernel of host's items has the envelope a conflict
  abbrev pub HasNoEnvelopeConflict : Type 0
  HasNoEnvelopeConflict = (prefix : List Symbol) (t : ℕ) → IsNewHostKernel g k (up_by m) prefix →
      ¬ HasEnvelopeConflict g (HostKernel k (up_by m) prefix) t
