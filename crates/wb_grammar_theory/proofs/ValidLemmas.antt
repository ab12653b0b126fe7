-- What can be done at a prefix depends on its kernel alone.
use Rattle.std.proofs.Common.{◌≡◌, ℕ, List, [], ◌∷◌, ◌++◌, sym, ◌∙◌, ap, subst, inl, inr}
use Rattle.std.specs.Prelude.{◌↔◌}
use Rattle.wb_base.specs.declared.symbol.Symbol.{Symbol}
use Rattle.wb_base.specs.Grammar.{GrammarView}
use Rattle.wb_grammar_theory.specs.declared.item.Item.{Item}
use Rattle.wb_grammar_theory.specs.Items.{after_dot, HasItem, IsValidItem, SameKernel, start, close, move}
use Rattle.wb_grammar_theory.specs.Lookaheads.{CanShift, CanReduce, IsValidTerminal, HasConflict}
use Rattle.wb_grammar_theory.specs.Shape.{IsLive}
use Rattle.wb_grammar_theory.proofs.KernelLemmas.{kernel_decides, snoc_parts, snoc_not_nil}
use Rattle.wb_grammar_theory.proofs.FlowLemmas.{same_back, same_then}

-- some item has its dot before the last symbol of a prefix
pub before_last : {g : GrammarView} {longer : List Symbol} {item : Item} {t : ℕ} → IsValidItem g longer item t →
    (prefix : List Symbol) (x : Symbol) →
    longer ≡ prefix ++ x ∷ [] → (one : Item) × (rest : List Symbol) × HasItem g prefix one × (after_dot g one ≡ x ∷ rest)
before_last start prefix x e = absurd (snoc_not_nil prefix x (sym e))
before_last (close item t b rest q u right v is rule first) prefix x e = before_last v prefix x e
before_last {g} (move item y rest shorter {t} v is longer_is moved_is) prefix x e =
    let (same, last) = snoc_parts shorter prefix y x (sym longer_is ∙ e) in
    (item, rest, (t, subst (λ z. IsValidItem g z item t) same v), is ∙ ap (λ z. z ∷ rest) last)

module _ {g : GrammarView} {prefix other : List Symbol} {t : ℕ} where
  -- what can be shifted at a prefix can be shifted at another with the same kernel and at least its items
  pub shift_kept : SameKernel g other prefix → ((item : Item) → HasItem g prefix item → HasItem g other item) → CanShift g prefix t →
      CanShift g other t
  shift_kept same has can = record { item = can.item; rest = can.rest; has = has can.item can.has; before_dot = can.before_dot }

  -- the same of a reduction
  pub reduction_kept : {p : ℕ} → SameKernel g other prefix → ((item : Item) → HasItem g prefix item → HasItem g other item) →
      CanReduce g prefix p t → CanReduce g other p t
  reduction_kept same has can = record {
    item = can.item;
    production = can.production;
    complete = can.complete;
    has = has can.item can.has;
    lookahead = (let (third, is, valid) = can.lookahead in (third, same_then same is, valid));
  }

-- in a live grammar the items are those of every prefix with the kernel
items_kept : {g : GrammarView} {prefix other : List Symbol} → IsLive g → SameKernel g other prefix → (item : Item) →
    HasItem g prefix item → HasItem g other item
items_kept {other = other} live same item has = kernel_decides live has.1 other (same_back same)

module _ {g : GrammarView} {prefix other : List Symbol} {t : ℕ} (live : IsLive g) (same : SameKernel g other prefix) where
  valid_kept : IsValidTerminal g prefix t → IsValidTerminal g other t
  valid_kept (inl can) = inl (shift_kept same (items_kept live same) can)
  valid_kept (inr (p, can)) = inr (p, reduction_kept same (items_kept live same) can)

  conflict_kept : HasConflict g prefix t → HasConflict g other t
  conflict_kept (inl (p, can, red)) = inl (p, shift_kept same (items_kept live same) can, reduction_kept same (items_kept live same) red)
  conflict_kept (inr (p, q, ne, one, two)) =
      inr (p, q, ne, reduction_kept same (items_kept live same) one, reduction_kept same (items_kept live same) two)

-- prefixes with the same kernel have the same valid terminals
pub same_valid : (g : GrammarView) → IsLive g → (prefix other : List Symbol) → SameKernel g prefix other → (t : ℕ) →
    IsValidTerminal g prefix t ↔ IsValidTerminal g other t
same_valid g live prefix other same t = (valid_kept live (same_back same), valid_kept live same)

-- and the same conflicts
pub same_conflict : (g : GrammarView) → IsLive g → (prefix other : List Symbol) → SameKernel g prefix other → (t : ℕ) →
    HasConflict g prefix t ↔ HasConflict g other t
same_conflict g live prefix other same t = (conflict_kept live (same_back same), conflict_kept live same)
