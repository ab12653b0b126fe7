-- What a nonterminal opens, as its productions are read.
use Rattle.std.proofs.Common.{◌≡◌, ℕ, ◌+◌, ◌<◌, ◌≤◌, ◌⊎◌, List, [], ◌∷◌, length, get_or, Some, refl, sym, ◌∙◌, ap, subst, inl, inr, arith}
use Rattle.std.specs.Prelude.{IfSome, slice_get}
use Rattle.std.proofs.lemmas.Option.{slice_get-get_or}
use Rattle.wb_lemmas.proofs.Places.{at_once, at_within, default_at}
use Rattle.wb_base.specs.declared.symbol.Symbol.{Symbol}
use Rattle.wb_base.specs.declared.symbol.Symbol.TheVariants.{Nonterminal}
use Rattle.wb_base.specs.Grammar.{GrammarView, Production}
use Rattle.wb_grammar_theory.specs.declared.item.Item.{Item}
use Rattle.wb_grammar_theory.specs.Items.{IsValidItem, initial_item, start_item}
use Rattle.wb_grammar_theory.specs.Items as valid
use Rattle.wb_grammar_theory.specs.Productions.{IsProduction}
use Rattle.wb_grammar_theory.proofs.ProductionLemmas.{production_within}
use Rattle.wb_items.specs.Apart.{Opens}
use Rattle.wb_items.specs.Table.{AreProductions, AreProductionsOf}
use Rattle.wb_digraph.specs.Inner.Numbers.{IsFirstOpened}
use Rattle.wb_digraph.proofs.NumberLemmas.{opens_once}

-- the row of a nonterminal that was read
pub row_at : (rows : List (List ℕ)) (b : ℕ) (numbers row : List ℕ) → b < length rows → numbers ≡ get_or rows b row →
    slice_get rows b ≡ Some numbers
row_at rows b numbers row lt is = slice_get-get_or rows b row lt ∙ ap Some (sym is)

-- the left side that was read opens the item
pub read_opens : {g k : GrammarView} (item : Item) (left : ℕ) → k ≡ g → item.dot ≤ 0 → item.production < length g.productions →
    IfSome (slice_get g.productions item.production) (λ r. left ≡ r.0) → Opens k left item
read_opens {g} {k} item left same zero lt e =
    let (rule, at) = at_within g.productions item.production lt in
    let is : left ≡ rule.0 = subst (λ o. IfSome o (λ (r : Production). left ≡ r.0)) at e in
    let rule' : IsProduction g item.production left rule.1 = at ∙ ap (λ z. Some (z, rule.1)) (sym is) in
    (omega (arith, zero), rule.1, subst (λ (z : GrammarView). IsProduction z item.production left rule.1) (sym same) rule')

-- a nonterminal that opens an item has a production
pub row_some : {g : GrammarView} {rows : List (List ℕ)} → AreProductions g rows → (b : ℕ) (item : Item) (numbers : List ℕ) → Opens g b item →
    slice_get rows b ≡ Some numbers → 0 < length numbers
row_some p b item numbers (dot, right, rule) at =
    let (k, lt, is) = (p.each b numbers at).complete item.production right rule in omega (arith, lt)

-- the first item of the row that was read
pub first_read : (rows : List (List ℕ)) (b d : ℕ) (numbers : List ℕ) → slice_get rows b ≡ Some numbers → 0 < length numbers →
    IsFirstOpened rows b (record { production = get_or numbers 0 d; dot = 0 })
first_read rows b d numbers at some = (numbers, get_or numbers 0 d, at, slice_get-get_or numbers 0 d some, refl)

-- an item that isn't the first of its row
pub not_first_read : (g : GrammarView) (rows : List (List ℕ)) (b d : ℕ) (item : Item) (numbers : List ℕ) → slice_get rows b ≡ Some numbers →
    Opens g b item → (get_or numbers 0 d ≡ item.production → ⊥) → (c : ℕ) → Opens g c item → ¬ IsFirstOpened rows c item
not_first_read g rows b d item numbers at opens differs c opens' (numbers', q, at', first, is) =
    let same : c ≡ b = opens_once g item c b opens' opens in
    let row : numbers' ≡ numbers = at_once rows b numbers' numbers (subst (λ z. slice_get rows z ≡ Some numbers') same at') at in
    let q_is : get_or numbers 0 d ≡ q = default_at numbers 0 d q (subst (λ z. slice_get z 0 ≡ Some q) row first) in
    differs (q_is ∙ sym (ap (λ (z : Item). z.production) is))

-- an item that is
pub is_first_read : (rows : List (List ℕ)) (b d : ℕ) (item : Item) (numbers : List ℕ) → slice_get rows b ≡ Some numbers →
    0 < length numbers → item.dot ≤ 0 → get_or numbers 0 d ≡ item.production → IsFirstOpened rows b item
is_first_read rows b d item numbers at some zero is = (
  numbers,
  item.production,
  at,
  slice_get-get_or numbers 0 d some ∙ ap Some is,
  (let dot : item.dot ≡ 0 = omega (arith, zero) in λ j. record { production = item.production; dot = dot j }),
)

-- an item with its dot at the left end of no production is the start item
pub start_is : {g : GrammarView} {prefix : List Symbol} {item : Item} {u : ℕ} → IsValidItem g prefix item u → item.dot ≤ 0 →
    length g.productions ≤ item.production → item ≡ start_item g
start_is valid.start zero past = refl
start_is {g} (valid.close item t c rest q u right v is rule f) zero past =
    absurd (let w = production_within g q c right rule in omega (arith, w, past))
start_is (valid.move item x rest shorter v is longer moved) zero past =
    absurd (let e = ap (λ (i : Item). i.dot) moved in omega (arith, e, zero))
