-- The kernels after symbols, as a loop over the runs of a list makes them.
use Rattle.std.proofs.Common.{◌≡◌, ◌<◌, ◌≤◌, ◌∙◌, ◌∷◌, ◌++◌, [], List, ℕ, Some, length, refl, sym, subst, inl, inr, arith}
use Rattle.std.specs.List.{between}
use Rattle.std.specs.Prelude.{◌↔◌, Contains, slice_get}
use Rattle.std.proofs.lemmas.Bool.{cases_lt}
use Rattle.std.proofs.lemmas.Option.{slice_get_within}
use Rattle.wb_lemmas.proofs.Members.{contains_at, place_of}
use Rattle.wb_lemmas.proofs.Places.{at_push, push_keeps, push_last}
use Rattle.wb_base.specs.declared.symbol.Symbol.{Symbol}
use Rattle.wb_base.specs.Grammar.{GrammarView}
use Rattle.wb_grammar_theory.specs.declared.item.Item.{Item}
use Rattle.wb_grammar_theory.specs.Items.{advance}
use Rattle.wb_items.specs.Moved.{IsMoved}
use Rattle.wb_items.specs.Kernels.{AreInOrder}
use Rattle.wb_items.specs.Order.{SymbolPrecedes}
use Rattle.wb_items.proofs.SymbolOrder.{symbol_not_itself}
use Rattle.wb_determinism_kernels.specs.declared.advance.Advance.{Advance}
use Rattle.wb_determinism_kernels.specs.declared.moved.MovedKernel.{MovedKernel}
use Rattle.wb_determinism_kernels.specs.Inner.Advances.{AreAdvancesRising, HasAdvance, IsRun, items_of, symbol_of}
use Rattle.wb_determinism_kernels.specs.Inner.MovedKernels.{AreInSymbolOrder, AreMovedKernels, IsRunKernel, MovedUpTo}
use Rattle.wb_determinism_kernels.proofs.AdvanceLemmas.{run_exact}

pub moved_start : (list : List Advance) → MovedUpTo list [] 0
moved_start list = record {
  each = λ i m at. cc;
  ordered = λ i j a b lt p q. cc;
  complete = λ j a lt at. absurd (omega arith);
  earlier = λ i j m a at le there. cc;
}

module _ (list : List Advance) (moved more : List MovedKernel) (n end : ℕ) (x : Symbol) (b : Advance) (kernel : List Item)
    (here : slice_get list n ≡ Some b) (is : symbol_of b ≡ x) (rising : AreAdvancesRising list) (run : IsRun list x n end)
    (h : MovedUpTo list moved n)
    (same : (item : Item) → Contains kernel item ↔ Contains (items_of (between n end list)) item) (in_order : AreInOrder kernel)
    (added : more ≡ moved ++ record { symbol = x; kernel = kernel } ∷ []) where
  -- no earlier place has the symbol
  apart : (j : ℕ) (a : Advance) → j < n → slice_get list j ≡ Some a → symbol_of a ≡ x → ⊥
  apart j a lt at over =
      let (i, m, at_m, m_is) = h.complete j a lt at in
      symbol_not_itself x (subst (λ z. SymbolPrecedes z x) (m_is ∙ over)
      (subst (SymbolPrecedes m.symbol) is (h.earlier i n m b at_m (omega arith) here)))

  abbrev new : MovedKernel
  new = record { symbol = x; kernel = kernel }

  exact : (item : Item) → Contains kernel item ↔ HasAdvance list x item
  exact item =
      let run_is = run_exact list x n end rising run apart item in
      (λ k. run_is.0 ((same item).0 k), λ k. (same item).1 (run_is.1 k))

  is_kernel : IsRunKernel list new
  is_kernel = record {
    exact = exact;
    in_order = in_order;
    some = (b.item, (exact b.item).1 (record { advance = b; listed = contains_at list b n here; over = is; is = refl }));
  }

  before : (i : ℕ) (m : MovedKernel) → slice_get moved i ≡ Some m → SymbolPrecedes m.symbol x
  before i m at = subst (SymbolPrecedes m.symbol) is (h.earlier i n m b at (omega arith) here)

  ordered : AreInSymbolOrder (moved ++ new ∷ [])
  ordered i j a c lt p q = elim (at_push moved new a i p) [
    | inl old ↦ elim (at_push moved new c j q) [
      | inl old' ↦ h.ordered i j a c lt old old'
      | inr last ↦ subst (λ (z : MovedKernel). SymbolPrecedes a.symbol z.symbol) last.1 (before i a old)
    ]
    | inr last ↦ elim (at_push moved new c j q) [
      | inl old' ↦ absurd (let w = slice_get_within moved j c old' in omega (arith, last.0, w, lt))
      | inr last' ↦ absurd (omega (arith, last.0, last'.0, lt))
    ]
  ]

  -- the kernel of a run more
  pub moved_more : MovedUpTo list more end
  moved_more = subst (λ z. MovedUpTo list z end) (sym added) (record {
    each = λ i m at. elim (at_push moved new m i at) [
      | inl old ↦ h.each i m old
      | inr last ↦ subst (IsRunKernel list) last.1 is_kernel
    ];
    ordered = ordered;
    complete = λ j a lt at. elim (cases_lt j n) [
      | inl less ↦ (let (i, m, at_m, m_is) = h.complete j a less at in (i, m, push_keeps moved new i m at_m, m_is))
      | inr ge ↦ (length moved, new, push_last moved new, sym (run.same j a ge lt at))
    ];
    earlier = λ i j m a at le there. elim (at_push moved new m i at) [
      | inl old ↦ h.earlier i j m a old (let after = run.after in omega (arith, after, le)) there
      | inr last ↦ subst (λ (z : MovedKernel). SymbolPrecedes z.symbol (symbol_of a)) last.1 (run.beyond j a le there)
    ];
  })

-- all symbols have their kernels
pub moved_done : (g : GrammarView) (closure : List Item) (list : List Advance) (moved : List MovedKernel) (n : ℕ) → length list ≤ n →
    ((x : Symbol) (item : Item) → HasAdvance list x item ↔ IsMoved g closure x item) → MovedUpTo list moved n →
    AreMovedKernels g closure moved
moved_done g closure list moved n past exact h = record {
  each = λ i m at. (let k = h.each i m at in record {
    exact = λ item. (
      λ c. (exact m.symbol item).0 ((k.exact item).0 c),
      λ c. (k.exact item).1 ((exact m.symbol item).1 c),
    );
    in_order = k.in_order;
    some = k.some;
  });
  ordered = h.ordered;
  complete = λ item x rest c is.
      let has = (exact x (advance item)).1 (record { item = item; rest = rest; listed = c; before_dot = is; is = refl }) in
      let (j, at) = place_of list has.advance has.listed in
      let (i, m, at_m, m_is) = h.complete j has.advance (let w = slice_get_within list j has.advance at in omega (arith, w, past)) at in
      (i, m, at_m, m_is ∙ has.over);
}
