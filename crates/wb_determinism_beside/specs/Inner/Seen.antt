-- What is seen of the new kernels of a host with an extension.
use Rattle.std.specs.Prelude.{◌≢◌, ◌<◌, ◌+◌, ℕ, List, Option, length}
use Rattle.wb_base.specs.declared.symbol.Symbol.{Symbol}
use Rattle.wb_base.specs.Grammar.{GrammarView}
use Rattle.wb_compose_theory.specs.Numbered.{KeepsKernelLookaheads}
use Rattle.wb_compose_theory.specs.Renamings.{renamed_item}
use Rattle.wb_determinism_contexts.specs.Considered.{IsClashAt, LexiconView}
use Rattle.wb_determinism_kernels.specs.declared.numbers.Numbers.{Numbers}
use Rattle.wb_determinism_kernels.specs.NewKernels.{AreNewKernels, NewKernelsView, prefix_with}
use Rattle.wb_determinism_kernels.specs.Numbers.{phi_by, up_by}
use Rattle.wb_grammar_theory.specs.declared.item.Item.{Item}
use Rattle.wb_grammar_theory.specs.Items.{IsKernelItem}
use Rattle.wb_grammar_theory.specs.Lookaheads.{HasConflict}
use Rattle.wb_grammar_theory.specs.Shape.{IsLive}
use Rattle.wb_items.specs.Kernels.{AreKernels, KernelsView, count_of}

module _ (host : KernelsView) (k : GrammarView) (m : Numbers) (images : List (Option ℕ)) (new : NewKernelsView) where
  -- the prefix of the new kernel at a place
  abbrev pub new_prefix : ℕ → List Symbol
  new_prefix i = prefix_with host k m images new (count_of host + i)

  -- an item of the new kernel at the place isn't the host's
  pub record HasForeignAt (i : ℕ) : Type 0 where
    pub item : Item
    pub has : IsKernelItem k (new_prefix i) item
    pub foreign : (own : Item) → item ≢ renamed_item (up_by m) own

  -- the lookahead rule holds; each new kernel has an item that isn't the host's, and neither a conflict nor a clash
  pub record AreSeen (lexicon : LexiconView) : Type 0 where
    pub kernels : AreKernels host
    pub live : IsLive k
    pub are_new : AreNewKernels host k m images new
    pub rule : KeepsKernelLookaheads host.grammar k (up_by m) (phi_by m images)
    pub foreign : (i : ℕ) → i < length new.index.kernels → HasForeignAt i
    pub no_conflict : (i t : ℕ) → i < length new.index.kernels → ¬ HasConflict k (new_prefix i) t
    pub no_clash : (i left right : ℕ) (text : List ℕ) → i < length new.index.kernels → ¬ IsClashAt k lexicon (new_prefix i) left right text
