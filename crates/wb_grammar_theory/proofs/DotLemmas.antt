-- Items and their dots.
use Rattle.std.proofs.Common.{◌≡◌, ℕ, ◌+◌, zero, suc, List, [], ◌∷◌, ◌++◌, length, drop, Some, refl, sym, ◌∙◌, ap, subst, arith}
use Rattle.std.specs.Prelude.{slice_get}
use Rattle.wb_base.specs.declared.symbol.Symbol.{Symbol}
use Rattle.wb_base.specs.declared.symbol.Symbol.TheVariants.{Terminal, Nonterminal}
use Rattle.wb_grammar_theory.specs.declared.item.Item.{Item}
use Rattle.wb_base.specs.Grammar.{GrammarView, Production}
use Rattle.wb_grammar_theory.specs.Productions.{IsProduction, right_in}
use Rattle.wb_grammar_theory.specs.Derives.{Derives, IsFirst}
use Rattle.wb_grammar_theory.specs.Items.{after_dot, advance, initial_item, start_item}
use Rattle.wb_grammar_theory.proofs.DerivesLemmas.{Derives-split}

right_of_production : (rs : List Production) (s p a : ℕ) (right : List Symbol) → slice_get rs p ≡ Some ((a, right)) →
    right_in rs s p ≡ right
right_of_production [] s p a right e = cc
right_of_production (r ∷ rs) s zero a right e = let f : r ≡ (a, right) = cc in ap (λ (z : Production). z.1) f
right_of_production (r ∷ rs) s (suc p) a right e = right_of_production rs s p a right e

right_of_top : (rs : List Production) (s : ℕ) → right_in rs s (length rs) ≡ Nonterminal s ∷ []
right_of_top [] s = refl
right_of_top (r ∷ rs) s = right_of_top rs s

no_production_past : (rs : List Production) (r : Production) → slice_get rs (length rs) ≡ Some r → ⊥
no_production_past [] r e = cc
no_production_past (x ∷ rs) r e = no_production_past rs r e

pub top_no_production : (g : GrammarView) (q a : ℕ) (right : List Symbol) → IsProduction g q a right → q ≡ length g.productions → ⊥
top_no_production g q a right rule e = no_production_past g.productions ((a, right))
    (subst (λ z. slice_get g.productions z ≡ Some ((a, right))) e rule)

pub after_initial : (g : GrammarView) (q a : ℕ) (right : List Symbol) → IsProduction g q a right → after_dot g (initial_item q) ≡ right
after_initial g q a right rule = right_of_production g.productions g.start q a right rule

pub after_start : (g : GrammarView) → after_dot g (start_item g) ≡ Nonterminal g.start ∷ []
after_start g = right_of_top g.productions g.start

drop_next : (d : ℕ) (w : List Symbol) (x : Symbol) (rest : List Symbol) → drop d w ≡ x ∷ rest → drop (suc d) w ≡ rest
drop_next zero [] x rest e = cc
drop_next zero (y ∷ w) x rest e = cc
drop_next (suc d) [] x rest e = cc
drop_next (suc d) (y ∷ w) x rest e = drop_next d w x rest e

pub after_advance : (g : GrammarView) (item : Item) (x : Symbol) (rest : List Symbol) → after_dot g item ≡ x ∷ rest →
    after_dot g (advance item) ≡ rest
after_advance g item x rest e =
    let n : item.dot + 1 ≡ suc item.dot = omega arith in
    ap (λ d. drop d (right_in g.productions g.start item.production)) n
    ∙ drop_next item.dot (right_in g.productions g.start item.production) x rest e

-- the start item is the one item of S' with its dot at the left end, and its rest is empty
pub start_rest : (g : GrammarView) (item : Item) (b : ℕ) (rest : List Symbol) → item.production ≡ length g.productions →
    after_dot g item ≡ Nonterminal b ∷ rest → (item.dot ≡ 0) × (b ≡ g.start) × (rest ≡ [])
start_rest g item b rest top is = go item.dot (ap (drop item.dot)
    (sym (ap (right_in g.productions g.start) top ∙ right_of_top g.productions g.start)) ∙ is)
  where
    go : (d : ℕ) → drop d (Nonterminal g.start ∷ []) ≡ Nonterminal b ∷ rest → (d ≡ 0) × (b ≡ g.start) × (rest ≡ [])
    go zero e = (refl, cc, cc)
    go (suc zero) e = cc
    go (suc (suc d)) e = cc

-- what a word with a terminal after it can begin with: of the word, or, where it derives the empty text, that terminal
pub data Begun (g : GrammarView) (w : List Symbol) (t u : ℕ) : Type 0 where
  within : (v : List Symbol) → Derives g w (Terminal u ∷ v) → Begun g w t u
  behind : Derives g w [] → u ≡ t → Begun g w t u

terminal_first : (g : GrammarView) (t u : ℕ) (v : List Symbol) {x : List Symbol} → Derives g (Terminal t ∷ []) x → x ≡ Terminal u ∷ v →
    u ≡ t
terminal_first g t u v (Derives.keep y r) e = cc

pub begun : (g : GrammarView) (w : List Symbol) (t u : ℕ) → IsFirst g (w ++ Terminal t ∷ []) u → Begun g w t u
begun g w t u (v, r) = let s = Derives-split w r in go s.left s.right s.is s.of_left s.of_right
  where
    go : (left right : List Symbol) → Terminal u ∷ v ≡ left ++ right → Derives g w left → Derives g (Terminal t ∷ []) right → Begun g w t u
    go [] right is l r = behind l (terminal_first g t u v r (sym is))
    go (y ∷ left) right is l r = let e : y ≡ Terminal u = cc in within left (subst (λ z. Derives g w (z ∷ left)) e l)
