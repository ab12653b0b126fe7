-- Each nonterminal of a reduced grammar has a production.
use Rattle.std.proofs.Common.{◌≡◌, ℕ, ◌<◌, List, [], ◌∷◌, length, get_or, Some, refl, sym, ap, subst, arith}
use Rattle.std.specs.Prelude.{slice_get}
use Rattle.std.proofs.lemmas.List.Elements.{Contains-get_or}
use Rattle.wb_base.specs.declared.symbol.Symbol.{Symbol}
use Rattle.wb_base.specs.declared.symbol.Symbol.TheVariants.{Nonterminal, Terminal}
use Rattle.wb_base.specs.Grammar.{GrammarView}
use Rattle.wb_grammar_theory.specs.Derives.{Derives, IsText, done, empty, expand, keep, next}
use Rattle.wb_grammar_theory.specs.Productions.{IsProduction}
use Rattle.wb_grammar_theory.specs.Shape.{IsReduced}
use Rattle.wb_items.specs.Table.{AreProductions}

text_terminals : {w : List Symbol} → IsText w → (b : ℕ) (v : List Symbol) → w ≡ Nonterminal b ∷ v → ⊥
text_terminals empty b v e = cc
text_terminals (next t text) b v e = cc

some_production : {g : GrammarView} {w x : List Symbol} → Derives g w x → (b : ℕ) → w ≡ Nonterminal b ∷ [] → IsText x →
    (q : ℕ) × (right : List Symbol) × IsProduction g q b right
some_production done b e text = cc
some_production (keep y {w = w} {v = v} d) b e text =
    let same : y ≡ Nonterminal b = cc in
    absurd (text_terminals text b v (ap (λ z. z ∷ v) same))
some_production {g} (expand p a right u v {w = w} rule d d' is) b e text =
    let same : a ≡ b = cc in
    (p, right, subst (λ z. IsProduction g p z right) same rule)

-- and has a production, which is the first of its row
pub row_opens : (g : GrammarView) (rows : List (List ℕ)) → IsReduced g → AreProductions g rows → (b d : ℕ) (numbers : List ℕ) →
    b < g.nonterminals → slice_get rows b ≡ Some numbers → (0 < length numbers) × ((right : List Symbol) ×
    IsProduction g (get_or numbers 0 d) b right)
row_opens g rows reduced p b d numbers below at =
    let (text, derives, is_text) = reduced.productive b below in
    let (q, right, rule) = some_production derives b refl is_text in
    let are = p.each b numbers at in
    let some : 0 < length numbers = (let (k, lt, is) = are.complete q right rule in omega (arith, lt)) in
    (some, are.sound (get_or numbers 0 d) (Contains-get_or numbers 0 d some))
