-- What is after a dot, by the parts that are read.
use Rattle.std.proofs.Common.{◌≡◌, ℕ, ◌<◌, ◌≤◌, zero, suc, List, [], ◌∷◌, length, get_or, drop, refl, sym, ◌∙◌, ap, arith, drop-cons}
use Rattle.std.specs.Prelude.{slice_get, IfSome}
use Rattle.std.proofs.lemmas.List.{drop_all}
use Rattle.wb_base.specs.declared.symbol.Symbol.{Symbol}
use Rattle.wb_base.specs.declared.symbol.Symbol.TheVariants.{Nonterminal}
use Rattle.wb_base.specs.Grammar.{GrammarView, Production}
use Rattle.wb_grammar_theory.specs.declared.item.Item.{Item}
use Rattle.wb_grammar_theory.specs.Productions.{right_in}
use Rattle.wb_grammar_theory.specs.Items.{after_dot}

right_in-at : (rs : List Production) (s p : ℕ) (right : List Symbol) → p < length rs → IfSome (slice_get rs p) (λ r. right ≡ r.1) →
    right_in rs s p ≡ right
right_in-at [] s p right lt e = absurd (omega arith)
right_in-at (r ∷ rs) s zero right lt e = sym e
right_in-at (r ∷ rs) s (suc p) right lt e = right_in-at rs s p right (omega arith) e

right_in-last : (rs : List Production) (s p : ℕ) → p ≡ length rs → right_in rs s p ≡ Nonterminal s ∷ []
right_in-last [] s zero e = refl
right_in-last [] s (suc p) e = absurd (omega arith)
right_in-last (r ∷ rs) s zero e = absurd (omega arith)
right_in-last (r ∷ rs) s (suc p) e = right_in-last rs s p (omega arith)

right_in-past : (rs : List Production) (s p : ℕ) → length rs < p → right_in rs s p ≡ []
right_in-past [] s zero lt = absurd (omega arith)
right_in-past [] s (suc p) lt = refl
right_in-past (r ∷ rs) s zero lt = absurd (omega arith)
right_in-past (r ∷ rs) s (suc p) lt = right_in-past rs s p (omega arith)

pub symbol_last : (g : GrammarView) (item : Item) → item.production ≡ length g.productions → item.dot ≡ 0 →
    after_dot g item ≡ Nonterminal g.start ∷ []
symbol_last g item e f = ap (drop item.dot) (right_in-last g.productions g.start item.production e) ∙
    ap (λ d. drop d (Nonterminal g.start ∷ [])) f

pub symbol_some : (g : GrammarView) (item : Item) (right : List Symbol) (d : Symbol) → item.production < length g.productions →
    IfSome (slice_get g.productions item.production) (λ r. right ≡ r.1) → item.dot < length right →
    (rest : List Symbol) × (after_dot g item ≡ get_or right item.dot d ∷ rest)
symbol_some g item right d lt e h = (
  drop (suc item.dot) right,
  ap (drop item.dot) (right_in-at g.productions g.start item.production right lt e) ∙
      drop-cons right item.dot d h,
)

pub symbol_past : (g : GrammarView) (item : Item) (right : List Symbol) → item.production < length g.productions →
    IfSome (slice_get g.productions item.production) (λ r. right ≡ r.1) → length right ≤ item.dot → after_dot g item ≡ []
symbol_past g item right lt e h = ap (drop item.dot) (right_in-at g.productions g.start item.production right lt e) ∙
    drop_all item.dot right h

drop_one : (x : Symbol) (dot : ℕ) → (dot ≡ 0 → ⊥) → drop dot (x ∷ []) ≡ []
drop_one x zero ne = absurd (ne refl)
drop_one x (suc zero) ne = refl
drop_one x (suc (suc dot)) ne = refl

pub symbol_end : (g : GrammarView) (item : Item) → item.production ≡ length g.productions → (item.dot ≡ 0 → ⊥) → after_dot g item ≡ []
symbol_end g item e ne = ap (drop item.dot) (right_in-last g.productions g.start item.production e) ∙
    drop_one (Nonterminal g.start) item.dot ne

drop_nil : (dot : ℕ) → ◌≡◌ {A = List Symbol} (drop dot []) []
drop_nil zero = refl
drop_nil (suc dot) = refl

pub symbol_none : (g : GrammarView) (item : Item) → length g.productions < item.production → after_dot g item ≡ []
symbol_none g item lt = ap (drop item.dot) (right_in-past g.productions g.start item.production lt) ∙ drop_nil item.dot
