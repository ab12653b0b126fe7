-- What is said of one set of items holds of another with the same members.
use Rattle.std.proofs.Common.{ℕ, List, inl, inr}
use Rattle.std.specs.Prelude.{◌↔◌}
use Rattle.wb_base.specs.declared.symbol.Symbol.{Symbol}
use Rattle.wb_base.specs.Grammar.{GrammarView}
use Rattle.wb_grammar_theory.specs.declared.item.Item.{Item}
use Rattle.wb_grammar_theory.specs.Closure.{InClosure, kernel, opened}
use Rattle.wb_grammar_theory.specs.Items.{SameKernel}
use Rattle.wb_compose_theory.specs.Numbered.{HostKernel, IsEnvelopeLookahead, CanShiftInEnvelope, CanReduceInEnvelope}
use Rattle.wb_compose_theory.specs.Numbered.{IsValidInEnvelope, HasEnvelopeConflict}
use Rattle.wb_compose_theory.specs.Renamings.{Renaming, renamed_item}
use Rattle.wb_determinism.proofs.EnvelopeLemmas.{closure_kept}

module _ (g : GrammarView) (K L : Item → Type 0) (same : (i : Item) → K i ↔ L i) where
  pub same_envelope : (item : Item) (t : ℕ) → IsEnvelopeLookahead g K item t → IsEnvelopeLookahead g L item t
  same_envelope item t (prefix, has, look) = (prefix, (λ i l. has i ((same i).1 l)), look)

  pub same_shift : (t : ℕ) → CanShiftInEnvelope g K t → CanShiftInEnvelope g L t
  same_shift t can = record {
    item = can.item;
    rest = can.rest;
    within = closure_kept (λ i k. (same i).0 k) can.within;
    before_dot = can.before_dot;
  }

  pub same_reduction : (p t : ℕ) → CanReduceInEnvelope g K p t → CanReduceInEnvelope g L p t
  same_reduction p t can = record {
    item = can.item;
    production = can.production;
    complete = can.complete;
    within = closure_kept (λ i k. (same i).0 k) can.within;
    lookahead = same_envelope can.item t can.lookahead;
  }

  pub same_valid_in : (t : ℕ) → IsValidInEnvelope g K t → IsValidInEnvelope g L t
  same_valid_in t (inl can) = inl (same_shift t can)
  same_valid_in t (inr (p, can)) = inr (p, same_reduction p t can)

  pub same_conflict_in : (t : ℕ) → HasEnvelopeConflict g K t → HasEnvelopeConflict g L t
  same_conflict_in t (inl (p, can, red)) = inl (p, same_shift t can, same_reduction p t red)
  same_conflict_in t (inr (p, q, differ, one, two)) = inr (p, q, differ, same_reduction p t one, same_reduction q t two)

-- a closure that has an item is that of some item
pub closure_item : {g : GrammarView} {K : Item → Type 0} {item : Item} → InClosure g K item → (i : Item) × K i
closure_item (kernel {item = item} k) = (item, k)
closure_item (opened item b rest q right c is rule) = closure_item c

-- the host's items of a kernel are those of each prefix with the kernel
pub same_host_items : (k : GrammarView) (up : Renaming) (prefix other : List Symbol) → SameKernel k prefix other → (i : Item)
    → HostKernel k up prefix i ↔ HostKernel k up other i
same_host_items k up prefix other same i = ((same (renamed_item up i)).0, (same (renamed_item up i)).1)
