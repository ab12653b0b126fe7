-- What is at a kernel, which items ask for it, and which terminals are valid.
use Rattle.std.proofs.Common.{◌≡◌, ◌≢◌, ◌↔◌, ℕ, ◌<◌, ◌≤◌, Some, None, Option, length, refl, ap, subst, inl, inr, arith}
use Rattle.std.specs.Prelude.{IfSome, IsNone}
use Rattle.std.proofs.lemmas.Bool.{cases_eq}
use Rattle.wb_base.specs.declared.symbol.Symbol.TheVariants.{Terminal, Nonterminal}
use Rattle.wb_grammar_theory.specs.declared.item.Item.{Item}
use Rattle.wb_grammar_theory.specs.Productions.{top_of}
use Rattle.wb_grammar_theory.specs.Items.{HasItem}
use Rattle.wb_grammar_theory.specs.Lookaheads.{CanShift, CanReduce, IsValidTerminal, HasConflict, HasNoConflict}
use Rattle.wb_grammar_theory.proofs.KernelLemmas.{kernel_decides}
use Rattle.wb_grammar_theory.proofs.FlowLemmas.{onward, same_back}
use Rattle.wb_grammar_theory.proofs.ShiftLemmas.{valid_production}
use Rattle.wb_grammar_theory.proofs.ValidLemmas.{before_last, shift_kept, reduction_kept}
use Rattle.wb_items.specs.Kernels.{KernelsView, AreKernels, HasNoneBefore, LeadsTo, count_of, prefix_of}
use Rattle.wb_lookahead.specs.declared.action.Action.{Action}
use Rattle.wb_lookahead.specs.declared.action.Action.TheVariants as act
use Rattle.wb_lookahead.specs.declared.action.Action.TheVariants.{Shift, Reduce, Accept}
use Rattle.wb_lookahead.specs.Tables.{IsGoto, Stands, ComesBefore}
use Rattle.wb_lookahead.specs.Inner.Rows.{Asks, shift, reduce, accept, IsReduction}
use Rattle.wb_lookahead.proofs.StepLemmas.{step_once}

-- an item asks for each action that stands
pub stands_asked : (kernels : KernelsView) (s t : ℕ) (action : Action) → Stands kernels s t action → (item : Item) ×
    HasItem kernels.grammar (prefix_of kernels s) item × Asks kernels s item t action
stands_asked kernels s t (Shift n) (can, leads) = (can.item, can.has, shift can.rest n can.before_dot leads)
stands_asked kernels s t (Reduce p) (lt, can) = (can.item, can.has, reduce p can.complete can.production lt can.lookahead)
stands_asked kernels s t Accept can = (can.item, can.has, accept can.complete can.production can.lookahead)
stands_asked kernels s t act.None none = absurd none

-- where an action stands, the terminal is valid
pub stands_valid : (kernels : KernelsView) (s t : ℕ) (action : Action) → Stands kernels s t action →
    IsValidTerminal kernels.grammar (prefix_of kernels s) t
stands_valid kernels s t (Shift n) (can, leads) = inl can
stands_valid kernels s t (Reduce p) (lt, can) = inr (p, can)
stands_valid kernels s t Accept can = inr (top_of kernels.grammar, can)
stands_valid kernels s t act.None none = absurd none

module _ (kernels : KernelsView) (s t : ℕ) where
  -- a terminal that can be shifted leads to a kernel
  pub shift_stands : AreKernels kernels → s < count_of kernels → CanShift kernels.grammar (prefix_of kernels s) t → (n : ℕ) ×
      Stands kernels s t (Shift n)
  shift_stands h lt can =
      let on = onward (prefix_of kernels) h.live h.states s lt can.item (Terminal t) can.rest can.has can.before_dot in
      (on.to, (can, on.next))

  -- a production that can be reduced is one of the grammar, or the added one
  pub reduction_stands : {p : ℕ} → CanReduce kernels.grammar (prefix_of kernels s) p t → (action : Action) ×
      IsReduction (top_of kernels.grammar) p action × Stands kernels s t action
  reduction_stands {p} can =
      let le : p ≤ length kernels.grammar.productions = subst (λ n. n ≤ length kernels.grammar.productions) can.production
      (valid_production can.has.1) in
      elim (cases_eq p (length kernels.grammar.productions)) [
        | inl top ↦ (Accept, inr (top, refl), subst (λ n. CanReduce kernels.grammar (prefix_of kernels s) n t) top can)
        | inr other ↦ (let lt : p < length kernels.grammar.productions = omega arith in (Reduce p, inl (lt, refl), (lt, can)))
      ]

  -- on a valid terminal some action stands
  pub valid_stands : AreKernels kernels → s < count_of kernels → IsValidTerminal kernels.grammar (prefix_of kernels s) t →
      (action : Action) × Stands kernels s t action
  valid_stands h lt (inl can) = (let (n, stands) = shift_stands h lt can in (Shift n, stands))
  valid_stands h lt (inr (p, can)) = (let (action, is, stands) = reduction_stands can in (action, stands))

-- of two different actions that stand one comes before the other
pub before_or : (kernels : KernelsView) → AreKernels kernels → (s t : ℕ) (a b : Action) → Stands kernels s t a → Stands kernels s t b →
    a ≢ b → ¬ ComesBefore a b → ComesBefore b a
before_or kernels h s t (Shift n) (Shift m) (_, x) (_, y) differ not = absurd (differ (ap Shift (step_once h s (Terminal t) n m x y)))
before_or kernels h s t (Shift n) (Reduce q) x y differ not = absurd (not tt)
before_or kernels h s t (Shift n) Accept x y differ not = absurd (not tt)
before_or kernels h s t (Reduce p) (Shift m) x y differ not = tt
before_or kernels h s t (Reduce p) (Reduce q) x y differ not = (let other : p ≢ q = λ e. differ (ap Reduce e) in omega arith)
before_or kernels h s t (Reduce p) Accept x y differ not = absurd (not tt)
before_or kernels h s t Accept (Shift m) x y differ not = tt
before_or kernels h s t Accept (Reduce q) x y differ not = tt
before_or kernels h s t Accept Accept x y differ not = absurd (differ refl)
before_or kernels h s t (Shift n) act.None x y differ not = absurd y
before_or kernels h s t (Reduce p) act.None x y differ not = absurd y
before_or kernels h s t Accept act.None x y differ not = absurd y
before_or kernels h s t act.None b x y differ not = absurd x

-- a reduction is by one production
pub reductions_once : (top p q : ℕ) (a b : Action) → IsReduction top p a → IsReduction top q b → a ≡ b → p ≡ q
reductions_once top p q a b (inl (_, x)) (inl (_, y)) e = cc
reductions_once top p q a b (inl (_, x)) (inr (_, y)) e = absurd (cc)
reductions_once top p q a b (inr (_, x)) (inl (_, y)) e = absurd (cc)
reductions_once top p q a b (inr (x, _)) (inr (y, _)) e = cc

-- and is no shift
pub not_shift : (top p n : ℕ) (a : Action) → IsReduction top p a → Shift n ≡ a → ⊥
not_shift top p n a (inl (_, x)) e = cc
not_shift top p n a (inr (_, x)) e = cc

-- where one action is at most, no prefix has a conflict
pub no_conflict : {kernels : KernelsView} → AreKernels kernels →
    ((s t : ℕ) → s < count_of kernels → (a b : Action) → Stands kernels s t a → Stands kernels s t b → a ≡ b) →
    HasNoConflict kernels.grammar
no_conflict {kernels} h once prefix t conflict = at conflict
  where
    at : HasConflict kernels.grammar prefix t → ⊥
    at (inl (p, can, red)) =
        let (s, lt, same) = h.states.all prefix (red.item, red.has.0, red.has.1) in
        let has : (item : Item) → HasItem kernels.grammar prefix item →
        HasItem kernels.grammar (prefix_of kernels s) item = λ item v. kernel_decides h.live v.1 (prefix_of kernels s)
        (same_back same) in
        let (n, x) = shift_stands kernels s t h lt (shift_kept same has can) in
        let (b, is, y) = reduction_stands kernels s t (reduction_kept same has red) in
        not_shift (top_of kernels.grammar) p n b is (once s t lt (Shift n) b x y)
    at (inr (p, q, ne, one, two)) =
        let (s, lt, same) = h.states.all prefix (one.item, one.has.0, one.has.1) in
        let has : (item : Item) → HasItem kernels.grammar prefix item →
        HasItem kernels.grammar (prefix_of kernels s) item = λ item v. kernel_decides h.live v.1 (prefix_of kernels s)
        (same_back same) in
        let (a, a_is, x) = reduction_stands kernels s t (reduction_kept same has one) in
        let (b, b_is, y) = reduction_stands kernels s t (reduction_kept same has two) in
        ne (reductions_once (top_of kernels.grammar) p q a b a_is b_is (once s t lt a b x y))

-- what leads from a kernel by a nonterminal
pub goto_is : {kernels : KernelsView} → AreKernels kernels → (s b : ℕ) (goto : Option ℕ) → IfSome goto (LeadsTo kernels s (Nonterminal b)) →
    IsNone goto ↔ HasNoneBefore kernels.grammar (prefix_of kernels s) (Nonterminal b) → IsGoto kernels s b goto
goto_is {kernels} h s b goto some none = record { some = λ n. (there n goto some, λ leads. only n goto some none.0 leads); none = none }
  where
    there : (n : ℕ) (goto : Option ℕ) → IfSome goto (LeadsTo kernels s (Nonterminal b)) → goto ≡ Some n →
        LeadsTo kernels s (Nonterminal b) n
    there n goto some e = (let at : IfSome (Some n) (LeadsTo kernels s (Nonterminal b)) = subst
        (λ z. IfSome z (LeadsTo kernels s (Nonterminal b))) e some in at)

    only : (n : ℕ) (goto : Option ℕ) → IfSome goto (LeadsTo kernels s (Nonterminal b)) →
        (IsNone goto → HasNoneBefore kernels.grammar (prefix_of kernels s) (Nonterminal b)) → LeadsTo kernels s (Nonterminal b) n →
        goto ≡ Some n
    only n (Some m) some none leads = ap Some (step_once h s (Nonterminal b) m n some leads)
    only n None some none leads =
        let (item, t, v) = leads.2 in
        let (one, rest, has, is) = before_last v (prefix_of kernels s) (Nonterminal b) refl in
        absurd (none refl one rest has is)

-- without conflict one action stands at most
pub stands_once : {kernels : KernelsView} → AreKernels kernels → HasNoConflict kernels.grammar → (s t : ℕ) (a b : Action) →
    Stands kernels s t a → Stands kernels s t b → b ≡ a
stands_once {kernels} h clear s t (Shift n) (Shift m) (_, x) (_, y) = ap Shift (step_once h s (Terminal t) m n y x)
stands_once {kernels} h clear s t (Shift n) (Reduce q) (x, _) (_, y) = absurd (clear (prefix_of kernels s) t (inl (q, x, y)))
stands_once {kernels} h clear s t (Shift n) Accept (x, _) y = absurd (clear (prefix_of kernels s) t (inl (top_of kernels.grammar, x, y)))
stands_once {kernels} h clear s t (Reduce p) (Shift m) (_, x) (y, _) = absurd (clear (prefix_of kernels s) t (inl (p, y, x)))
stands_once {kernels} h clear s t (Reduce p) (Reduce q) (_, x) (_, y) = elim (cases_eq q p) [
  | inl e ↦ ap Reduce e
  | inr other ↦ absurd (clear (prefix_of kernels s) t (inr (q, p, other, y, x)))
]
stands_once {kernels} h clear s t (Reduce p) Accept (lt, x) y =
    let differ : p ≢ top_of kernels.grammar = λ e. omega (arith, e, lt) in
    absurd (clear (prefix_of kernels s) t (inr (p, top_of kernels.grammar, differ, x, y)))
stands_once {kernels} h clear s t Accept (Shift m) x (y, _) = absurd (clear (prefix_of kernels s) t (inl (top_of kernels.grammar, y, x)))
stands_once {kernels} h clear s t Accept (Reduce q) x (lt, y) =
    let differ : q ≢ top_of kernels.grammar = λ e. omega (arith, e, lt) in
    absurd (clear (prefix_of kernels s) t (inr (q, top_of kernels.grammar, differ, y, x)))
stands_once {kernels} h clear s t Accept Accept x y = refl
stands_once {kernels} h clear s t (Shift n) act.None x y = absurd y
stands_once {kernels} h clear s t (Reduce p) act.None x y = absurd y
stands_once {kernels} h clear s t Accept act.None x y = absurd y
stands_once {kernels} h clear s t act.None b x y = absurd x
