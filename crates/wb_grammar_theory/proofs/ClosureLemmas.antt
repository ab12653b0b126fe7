-- The closure of a kernel has the items of its prefix.
use Rattle.std.proofs.Common.{◌≡◌, ◌≢◌, ℕ, ◌+◌, List, [], ◌∷◌, ◌++◌, refl, sym, ◌∙◌, ap, subst, inl, inr, arith}
use Rattle.std.specs.Prelude.{◌↔◌}
use Rattle.wb_base.specs.declared.symbol.Symbol.{Symbol}
use Rattle.wb_base.specs.declared.symbol.Symbol.TheVariants.{Nonterminal}
use Rattle.wb_base.specs.Grammar.{GrammarView}
use Rattle.wb_grammar_theory.specs.declared.item.Item.{Item}
use Rattle.wb_grammar_theory.specs.Items.{IsValidItem, start, close, move, HasItem, IsKernelItem, start_item}
use Rattle.wb_grammar_theory.specs.Productions.{end_of}
use Rattle.wb_grammar_theory.specs.Shape.{IsLive}
use Rattle.wb_grammar_theory.specs.Closure.{InClosure, kernel, opened, MovesTo}
use Rattle.wb_grammar_theory.proofs.KernelLemmas.{moved_from, snoc_not_nil}

pub closure_sound : {g : GrammarView} (prefix : List Symbol) → IsLive g → {item : Item} → InClosure g (IsKernelItem g prefix) item →
    HasItem g prefix item
closure_sound prefix live (kernel k) = k.0
closure_sound prefix live (opened item b rest q right c is rule) =
    let (t, v) = closure_sound prefix live c in
    let (u, f) = live item (Nonterminal b) rest is t in
    (u, close item t b rest q u right v is rule f)

pub closure_complete : {g : GrammarView} {prefix : List Symbol} {item : Item} {t : ℕ} → IsValidItem g prefix item t →
    InClosure g (IsKernelItem g prefix) item
closure_complete {g} start = kernel ((end_of g, start), inr (refl, refl))
closure_complete (close item t b rest q u right v is rule f) = opened item b rest q right (closure_complete v) is rule
closure_complete {g} (move item x rest prefix {t} {longer} {moved} v is longer_is moved_is) =
    kernel (
      (t, move item x rest prefix v is longer_is moved_is),
      inl
          (λ z. let f : moved.dot ≡ item.dot + 1 = ap (λ i. i.dot) moved_is in omega arith),
    )

-- the kernel after one more symbol is that of the move
pub moves_exact : (g : GrammarView) → IsLive g → (prefix : List Symbol) (x : Symbol) (moved : Item) →
    IsKernelItem g (prefix ++ x ∷ []) moved ↔ MovesTo g (IsKernelItem g prefix) x moved
moves_exact g live prefix x moved = (there, back)
  where
    there : IsKernelItem g (prefix ++ x ∷ []) moved → MovesTo g (IsKernelItem g prefix) x moved
    there ((t, v), inl ne) =
        let m = moved_from v ne prefix x refl in
        record { item = m.item; rest = m.rest; within = closure_complete m.valid; before_dot = m.before_dot; is = m.is }
    there (h, inr (is, empty)) = absurd (snoc_not_nil prefix x empty)

    back : MovesTo g (IsKernelItem g prefix) x moved → IsKernelItem g (prefix ++ x ∷ []) moved
    back m =
        let (t, v) = closure_sound prefix live m.within in (
          (t, move m.item x m.rest prefix v m.before_dot refl m.is),
          inl
              (λ z. let f : moved.dot ≡ m.item.dot + 1 = ap (λ i. i.dot) m.is in omega arith),
        )

-- the kernel of the empty prefix has the start item alone
pub first_kernel : (g : GrammarView) (item : Item) → IsKernelItem g [] item ↔ (item ≡ start_item g)
first_kernel g item = (there, λ e. subst (IsKernelItem g []) (sym e) ((end_of g, start), inr (refl, refl)))
  where
    no_move : {prefix : List Symbol} {item : Item} {t : ℕ} → IsValidItem g prefix item t → prefix ≡ [] → item.dot ≢ 0 → ⊥
    no_move start e ne = ne refl
    no_move (close i t b rest q u right v is rule f) e ne = ne refl
    no_move (move i x rest shorter v is longer_is moved_is) e ne = snoc_not_nil shorter x (sym longer_is ∙ e)

    there : IsKernelItem g [] item → item ≡ start_item g
    there ((t, v), inl ne) = absurd (no_move v refl ne)
    there (h, inr (is, _)) = is
