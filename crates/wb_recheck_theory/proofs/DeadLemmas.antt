-- In `S -> C B`, `C -> c`, where B has no production, no item of C is valid.
use Rattle.std.proofs.Common.{◌≡◌, ℕ, zero, suc, List, [], ◌∷◌, ◌++◌, drop, Some, refl, sym, ◌∙◌, ap, subst, arith}
use Rattle.std.proofs.lemmas.Option.{same_Some}
use Rattle.wb_base.specs.declared.symbol.Symbol.{Symbol}
use Rattle.wb_base.specs.declared.symbol.Symbol.TheVariants.{Terminal, Nonterminal}
use Rattle.wb_base.specs.Grammar.{Production}
use Rattle.wb_grammar_theory.specs.declared.item.Item.{Item}
use Rattle.wb_grammar_theory.specs.Productions.{right_in, IsProduction}
use Rattle.wb_grammar_theory.specs.Derives.{Derives, expand, keep}
use Rattle.wb_recheck_theory.specs.Examples.{dead}
use Rattle.wb_grammar_theory.specs.Items.{IsValidItem, start, close, move}

abbrev pub pair : ℕ → List Symbol → Production
pair a right = (a, right)

number : (a b : ℕ) → Nonterminal a ≡ Nonterminal b → a ≡ b
number a b e = cc

pub left_of : (a b : ℕ) (right other : List Symbol) → Some (pair a right) ≡ Some (pair b other) → a ≡ b
left_of a b right other e = ap (λ (z : Production). z.0) (same_Some (pair a right) (pair b other) e)

-- B derives nothing
pub stuck : {w x : List Symbol} {u : ℕ} {v : List Symbol} → Derives dead w x → (rest : List Symbol) → w ≡ Nonterminal 2 ∷ rest →
    x ≡ Terminal u ∷ v → ⊥
stuck Derives.done rest e f = cc
stuck (keep y d) rest e f = cc
stuck (expand zero a right y z rule r s is) rest e f =
    let n : 0 ≡ a = left_of 0 a (Nonterminal 1 ∷ Nonterminal 2 ∷ []) right rule in
    let o : a ≡ 2 = cc in
    omega (arith, n, o)
stuck (expand (suc zero) a right y z rule r s is) rest e f =
    let n : 1 ≡ a = left_of 1 a (Terminal 0 ∷ []) right rule in
    let o : a ≡ 2 = cc in
    omega (arith, n, o)
stuck (expand (suc (suc p)) a right y z rule r s is) rest e f = cc

-- before C is nothing but `S -> . C B`
before_c : (p d : ℕ) (rest : List Symbol) → drop d (right_in dead.productions dead.start p) ≡ Nonterminal 1 ∷ rest →
    rest ≡ Nonterminal 2 ∷ []
before_c zero zero rest e = cc
before_c zero (suc zero) rest e = let h : Nonterminal 2 ≡ Nonterminal 1 = cc in let f = number 2 1 h in absurd (omega (arith, f))
before_c zero (suc (suc zero)) rest e = cc
before_c zero (suc (suc (suc d))) rest e = cc
before_c (suc zero) zero rest e = cc
before_c (suc zero) (suc zero) rest e = cc
before_c (suc zero) (suc (suc d)) rest e = cc
before_c (suc (suc zero)) zero rest e = let h : Nonterminal 0 ≡ Nonterminal 1 = cc in let f = number 0 1 h in absurd (omega (arith, f))
before_c (suc (suc zero)) (suc zero) rest e = cc
before_c (suc (suc zero)) (suc (suc d)) rest e = cc
before_c (suc (suc (suc p))) zero rest e = cc
before_c (suc (suc (suc p))) (suc d) rest e = cc

-- no item of C is valid
pub dead_never : {prefix : List Symbol} {item : Item} {t : ℕ} → IsValidItem dead prefix item t → item.production ≡ 1 → ⊥
dead_never start e = omega (arith, e)
dead_never (close item t b rest q u right v is rule (w, f)) e =
    let n : 1 ≡ b = left_of 1 b (Terminal 0 ∷ []) right (subst (λ z. IsProduction dead z b right) e rule) in
    let r = before_c item.production item.dot rest (is ∙ ap (λ z. Nonterminal z ∷ rest) (sym n)) in
    stuck f (Terminal t ∷ []) (ap (λ z. z ++ Terminal t ∷ []) r) refl
dead_never (move item x rest prefix v is longer_is moved_is) e = dead_never v (sym (ap (λ i. i.production) moved_is) ∙ e)
