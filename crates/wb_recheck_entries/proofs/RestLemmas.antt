-- What is behind the symbol after the dot of an item.
use Rattle.std.proofs.Common.{◌≡◌, ℕ, zero, suc, ◌<◌, ◌≤◌, ◌+◌, ◌-◌, List, [], ◌∷◌, length, take, drop, IfSome, refl, sym, ◌∙◌, ap}
use Rattle.std.proofs.Common.{arith}
use Rattle.std.specs.Prelude.{slice_get}
use Rattle.std.proofs.lemmas.List.{drop_all, length-drop, take_all}
use Rattle.wb_base.specs.declared.symbol.Symbol.{Symbol}
use Rattle.wb_base.specs.Grammar.{GrammarView, Production}
use Rattle.wb_grammar_theory.specs.declared.item.Item.{Item}
use Rattle.wb_grammar_theory.specs.Items.{after_dot}
use Rattle.wb_grammar_theory.specs.Productions.{right_in, right_of}

-- the right side of a production of the list
right_there : (rules : List Production) (start p : ℕ) (right : List Symbol) → p < length rules →
    IfSome (slice_get rules p) (λ rule. right ≡ rule.1) →
    right_in rules start p ≡ right
right_there [] start p right lt is = absurd (omega (arith, lt))
right_there (rule ∷ rules) start zero right lt is = sym is
right_there (rule ∷ rules) start (suc p) right lt is = right_there rules start p right (omega (arith, lt)) is

-- of a list with one element at most nothing is behind the first after a dot
tail_nothing : (right : List Symbol) (dot : ℕ) → length right ≤ 1 → (x : Symbol) (rest : List Symbol) → drop dot right ≡ x ∷ rest →
    [] ≡ rest
tail_nothing right dot le x [] e = refl
tail_nothing right dot le x (y ∷ rest) e =
    let long : length (drop dot right) ≡ length (x ∷ y ∷ rest) = ap length e in
    let short = length-drop dot right in
    absurd (omega (arith, long, short, le))

tail_of : (right : List Symbol) (dot : ℕ) (x : Symbol) (rest : List Symbol) → drop dot right ≡ x ∷ rest → drop (suc dot) right ≡ rest
tail_of [] zero x rest e = cc
tail_of [] (suc dot) x rest e = cc
tail_of (y ∷ right) zero x rest e = cc
tail_of (y ∷ right) (suc dot) x rest e = tail_of right dot x rest e

short_past : (rules : List Production) (start p : ℕ) → length rules ≤ p → length (right_in rules start p) ≤ 1
short_past [] start zero le = omega arith
short_past [] start (suc p) le = omega arith
short_past (rule ∷ rules) start zero le = absurd (omega (arith, le))
short_past (rule ∷ rules) start (suc p) le = short_past rules start p (omega (arith, le))

module _ (g : GrammarView) (item : Item) where
  pub rest_here : (right : List Symbol) → item.production < length g.productions →
      IfSome (slice_get g.productions item.production) (λ rule. right ≡ rule.1) → item.dot < length right →
      (x : Symbol) (rest : List Symbol) → after_dot g item ≡ x ∷ rest →
      take (length right - (item.dot + 1)) (drop (item.dot + 1) right) ≡ rest
  rest_here right within is lt x rest here =
      let same = right_there g.productions g.start item.production right within is in
      take_all (length right - (item.dot + 1)) (drop (item.dot + 1) right)
      (let long = length-drop (item.dot + 1) right in omega (arith, long))
      ∙ (ap (λ n. drop n right) (let one : item.dot + 1 ≡ suc item.dot = omega arith in one)
      ∙ tail_of right item.dot x rest (ap (drop item.dot) (sym same) ∙ here))

  pub no_rest : (right : List Symbol) → item.production < length g.productions →
      IfSome (slice_get g.productions item.production) (λ rule. right ≡ rule.1) → length right ≤ item.dot →
      (x : Symbol) (rest : List Symbol) → after_dot g item ≡ x ∷ rest → [] ≡ rest
  no_rest right within is le x rest here =
      let same = right_there g.productions g.start item.production right within is in
      let none : [] ≡ x ∷ rest = sym (drop_all item.dot right le) ∙ (ap (drop item.dot) (sym same) ∙ here) in cc

  pub no_rest_past : length g.productions ≤ item.production → (x : Symbol) (rest : List Symbol) → after_dot g item ≡ x ∷ rest → [] ≡ rest
  no_rest_past past x rest here =
      tail_nothing (right_of g item.production) item.dot (short_past g.productions g.start item.production past) x rest here
