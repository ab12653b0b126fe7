-- One step of an item: over the symbol after its dot, or to what the nonterminal after it opens.
use Rattle.std.proofs.Common.{◌≡◌, ℕ, ◌+◌, ◌<◌, ◌≤◌, ◌⊎◌, zero, suc, List, [], ◌∷◌, ◌++◌, length, drop, refl, sym, ◌∙◌, ap, subst, inl, inr, arith}
use Rattle.std.specs.Prelude.{◌↔◌}
use Rattle.std.proofs.lemmas.List.Elements.{All-head, All-same}
use Rattle.std.proofs.lemmas.Bool.{cases_eq, cases_lt}
use Rattle.wb_base.specs.declared.symbol.Symbol.{Symbol}
use Rattle.wb_base.specs.declared.symbol.Symbol.TheVariants.{Nonterminal, Terminal}
use Rattle.wb_base.specs.Grammar.{GrammarView, IsGrammar, IsSymbolBelow, Production}
use Rattle.wb_graph.specs.Graphs.{Edge}
use Rattle.wb_grammar_theory.specs.declared.item.Item.{Item}
use Rattle.wb_grammar_theory.specs.Derives.{Derives, done}
use Rattle.wb_grammar_theory.specs.Shape.{IsLive}
use Rattle.wb_grammar_theory.specs.Items as valid
use Rattle.wb_grammar_theory.proofs.LiveLemmas.{after_below}
use Rattle.wb_grammar_theory.specs.Items.{HasItem, advance, after_dot, initial_item}
use Rattle.wb_grammar_theory.specs.Productions.{IsProduction, right_in}
use Rattle.wb_grammar_theory.proofs.DotLemmas.{after_advance, after_initial, after_start, start_rest}
use Rattle.wb_grammar_theory.proofs.FlowLemmas.{onward}
use Rattle.wb_items.specs.Kernels.{AreKernels, KernelsView, LeadsTo, count_of, prefix_of}
use Rattle.wb_items.specs.Table.{AreProductions}
use Rattle.wb_digraph.specs.Inner.Links.{AddsLinks, HandsOpened, HandsOver}
use Rattle.wb_digraph.specs.Inner.Numbers.{AreBases, AreTailsUpTo, HasNumber}
use Rattle.wb_digraph.proofs.BackLemmas.{next_once}
use Rattle.wb_digraph.proofs.LinkLemmas.{adds_none, adds_one}
use Rattle.wb_digraph.proofs.NumberLemmas.{number_once, number_together, opener}

-- the item that moved is there
pub moved_has : {kernels : KernelsView} → AreKernels kernels → (s next : ℕ) (item : Item) (x : Symbol) (rest : List Symbol) →
    s < count_of kernels → HasItem kernels.grammar (prefix_of kernels s) item → after_dot kernels.grammar item ≡ x ∷ rest →
    LeadsTo kernels s x next → HasItem kernels.grammar (prefix_of kernels next) (advance item)
moved_has {kernels} h s next item x rest lt has is leads =
    let on = onward (prefix_of kernels) h.live h.states s lt item x rest has is in
    subst (λ z. HasItem kernels.grammar (prefix_of kernels z) (advance item)) (next_once h s x on.to next on.next leads) on.has

same_symbol : {x y : Symbol} {v w : List Symbol} → x ∷ v ≡ y ∷ w → x ≡ y
same_symbol e = cc

same_rest : {x y : Symbol} {v w : List Symbol} → x ∷ v ≡ y ∷ w → v ≡ w
same_rest e = cc

same_nonterminal : {a b : ℕ} {v w : List Symbol} → Nonterminal a ∷ v ≡ Nonterminal b ∷ w → a ≡ b
same_nonterminal e = cc

terminal_nonterminal : {a b : ℕ} {v w : List Symbol} → Terminal a ∷ v ≡ Nonterminal b ∷ w → ⊥
terminal_nonterminal e = cc

module _ {kernels : KernelsView} (h : AreKernels kernels) (rows : List (List ℕ)) (bases : List ℕ) (ok : IsGrammar kernels.grammar)
    (p : AreProductions kernels.grammar rows) (b : AreBases kernels bases) where
  abbrev Number : ℕ → Item → ℕ → Type 0
  Number = HasNumber kernels rows bases

  -- the link over the symbol after the dot
  pub adds_over : (s next v u : ℕ) (item : Item) (x : Symbol) (rest : List Symbol) (edges new : List Edge) → s < count_of kernels →
      HasItem kernels.grammar (prefix_of kernels s) item → after_dot kernels.grammar item ≡ x ∷ rest → LeadsTo kernels s x next →
      Number s item u → Number next (advance item) v → new ≡ edges ++ (v, u) ∷ [] →
      AddsLinks kernels Number (HandsOver kernels Number s item) edges new
  adds_over s next v u item x rest edges new lt has is leads from to new_is =
      adds_one kernels Number (HandsOver kernels Number s item) v u edges new new_is
      (s, lt, (item, has, inl (x, rest, next, is, leads, from, to)))
      (λ v' u' (y, rest', next', is', leads', from', to').
      let symbol : y ≡ x = sym (same_symbol (sym is ∙ is')) in
      let next_is : next' ≡ next = next_once h s x next' next (subst (λ z. LeadsTo kernels s z next') symbol leads') leads in (
        number_once h rows bases ok p b next (advance item) v' v (subst (λ z. Number z (advance item) v') next_is to') to,
        number_once h rows bases ok p b s item u' u from' from,
      ))

  -- that to what the nonterminal opens
  pub adds_opened : (s a v u q : ℕ) (item : Item) (rest right : List Symbol) (edges new : List Edge) → s < count_of kernels →
      HasItem kernels.grammar (prefix_of kernels s) item → after_dot kernels.grammar item ≡ Nonterminal a ∷ rest →
      Derives kernels.grammar rest [] → IsProduction kernels.grammar q a right → Number s item u → Number s (initial_item q) v →
      new ≡ edges ++ (v, u) ∷ [] → AddsLinks kernels Number (HandsOpened kernels Number s item) edges new
  adds_opened s a v u q item rest right edges new lt has is empty rule from to new_is =
      adds_one kernels Number (HandsOpened kernels Number s item) v u edges new new_is
      (s, lt, (item, has, inr (a, rest, q, right, is, empty, rule, from, to)))
      (λ v' u' (c, rest', r, right', is', empty', rule', from', to').
      let same : c ≡ a = sym (same_nonterminal (sym is ∙ is')) in (
        number_together h rows bases ok p b s a r q right' right v' v (subst (λ z. IsProduction kernels.grammar r z right') same rule') rule
            to' to,
        number_once h rows bases ok p b s item u' u from' from,
      ))

  -- none where the symbol is a terminal
  pub opens_no_terminal : (s n : ℕ) (item : Item) (x : Symbol) (rest : List Symbol) (edges : List Edge) →
      after_dot kernels.grammar item ≡ x ∷ rest → x ≡ Terminal n → AddsLinks kernels Number (HandsOpened kernels Number s item) edges edges
  opens_no_terminal s n item x rest edges is terminal =
      adds_none kernels Number (HandsOpened kernels Number s item) edges
      (λ v u (c, rest', r, right, is', empty, rule, from, to). terminal_nonterminal (ap (λ z. z ∷ rest) (sym terminal) ∙ sym is ∙ is'))

  -- none where what is behind the symbol doesn't derive the empty text
  pub opens_not_empty : (s : ℕ) (item : Item) (x : Symbol) (rest : List Symbol) (edges : List Edge) →
      after_dot kernels.grammar item ≡ x ∷ rest → ¬ Derives kernels.grammar rest [] →
      AddsLinks kernels Number (HandsOpened kernels Number s item) edges edges
  opens_not_empty s item x rest edges is never =
      adds_none kernels Number (HandsOpened kernels Number s item) edges
      (λ v u (c, rest', r, right, is', empty, rule, from, to). never (subst (λ z. Derives kernels.grammar z []) (sym (same_rest (sym is ∙ is'))) empty))

  -- none where the nonterminal has no production
  pub opens_nothing : (s a : ℕ) (item : Item) (x : Symbol) (rest : List Symbol) (edges : List Edge) →
      after_dot kernels.grammar item ≡ x ∷ rest → x ≡ Nonterminal a →
      ((q : ℕ) (right : List Symbol) → IsProduction kernels.grammar q a right → ⊥) →
      AddsLinks kernels Number (HandsOpened kernels Number s item) edges edges
  opens_nothing s a item x rest edges is symbol never =
      adds_none kernels Number (HandsOpened kernels Number s item) edges
      (λ v u (c, rest', r, right, is', empty, rule, from, to).
      let same : c ≡ a = sym (same_nonterminal (ap (λ z. z ∷ rest) (sym symbol) ∙ sym is ∙ is')) in
      never r right (subst (λ z. IsProduction kernels.grammar r z right) same rule))

-- nothing is after a dot of a production past all others
beyond_nothing : (rules : List Production) (start n : ℕ) → length rules < n → right_in rules start n ≡ []
beyond_nothing [] start zero lt = absurd (omega (arith, lt))
beyond_nothing [] start (suc n) lt = refl
beyond_nothing (rule ∷ rules) start zero lt = absurd (omega (arith, lt))
beyond_nothing (rule ∷ rules) start (suc n) lt = beyond_nothing rules start n (omega (arith, lt))

drop_nothing : (d : ℕ) → drop {A = Symbol} d [] ≡ []
drop_nothing zero = refl
drop_nothing (suc d) = refl

nothing_more : {x : Symbol} {w : List Symbol} → [] ≡ x ∷ w → ⊥
nothing_more e = cc

no_terminal : (g : GrammarView) (t : ℕ) (rest : List Symbol) (d : ℕ) → drop d (Nonterminal g.start ∷ []) ≡ Terminal t ∷ rest → ⊥
no_terminal g t rest zero e = cc
no_terminal g t rest (suc zero) e = cc
no_terminal g t rest (suc (suc d)) e = cc

-- what is behind the start in `S' -> S` derives the empty text
pub top_empty : (g : GrammarView) (item : Item) (x : Symbol) (rest : List Symbol) → length g.productions ≤ item.production →
    after_dot g item ≡ x ∷ rest → Derives g rest []
top_empty g item x rest past is = elim (cases_eq item.production (length g.productions)) [
  | inr ne ↦
      let none : after_dot g item ≡ [] =
      ap (drop item.dot) (beyond_nothing g.productions g.start item.production (omega (arith, past, ne))) ∙ drop_nothing item.dot in
      absurd (nothing_more (sym none ∙ is))
  | inl top ↦ at_top x top is
]
  where
    at_top : (x : Symbol) → item.production ≡ length g.productions → after_dot g item ≡ x ∷ rest → Derives g rest []
    at_top (Nonterminal b) top is = (let (d, start, nothing) = start_rest g item b rest top is in subst (λ z. Derives g z []) (sym nothing) done)
    at_top (Terminal t) top is =
        absurd (no_terminal g t rest item.dot (ap (drop item.dot) (sym (ap (right_in g.productions g.start) top ∙ after_start g)) ∙ is))

-- behind a symbol of a production the rest derives the empty text exactly where the tail begins there or before
pub tail_empty : (g : GrammarView) (item : Item) (b from : ℕ) (right : List Symbol) (x : Symbol) (rest : List Symbol) →
    IsProduction g item.production b right →
    ((k : ℕ) → k ≤ length right → (from ≤ k) ↔ Derives g (drop k right) []) → after_dot g item ≡ x ∷ rest →
    (from ≤ item.dot + 1) ↔ Derives g rest []
tail_empty g item b from right x rest rule each is =
    let rest_is : drop (item.dot + 1) right ≡ rest =
    ap (drop (item.dot + 1)) (sym (after_initial g item.production b right rule)) ∙ after_advance g item x rest is in
    let within : item.dot + 1 ≤ length right =
    room item.dot right (ap (drop item.dot) (sym (after_initial g item.production b right rule)) ∙ is) in
    subst (λ z. (from ≤ item.dot + 1) ↔ Derives g z []) rest_is (each (item.dot + 1) within)
  where
    room : (d : ℕ) (w : List Symbol) → drop d w ≡ x ∷ rest → d + 1 ≤ length w
    room zero [] e = absurd (nothing_more e)
    room zero (y ∷ w) e = omega arith
    room (suc d) [] e = absurd (nothing_more e)
    room (suc d) (y ∷ w) e = (let le = room d w e in omega (arith, le))

-- the nonterminal after a dot is one of the grammar
pub symbol_below : (g : GrammarView) → IsGrammar g → (item : Item) (x : Symbol) (rest : List Symbol) (b : ℕ) → after_dot g item ≡ x ∷ rest →
    x ≡ Nonterminal b → b < g.nonterminals
symbol_below g ok item x rest b is symbol =
    subst (IsSymbolBelow g.terminals g.nonterminals) symbol
    (All-head (IsSymbolBelow g.terminals g.nonterminals) x rest
    (All-same (IsSymbolBelow g.terminals g.nonterminals) (x ∷ rest) (after_dot g item) (sym is) (after_below g ok item)))

-- an item with a symbol after its dot, and the kernel has what the nonterminal opens
pub opened_has : {g : GrammarView} {prefix : List Symbol} (item : Item) (a q : ℕ) (rest right : List Symbol) → IsLive g →
    HasItem g prefix item → after_dot g item ≡ Nonterminal a ∷ rest → IsProduction g q a right → HasItem g prefix (initial_item q)
opened_has item a q rest right live (t, v) is rule =
    let (u, first) = live item (Nonterminal a) rest is t in
    (u, valid.close item t a rest q u right v is rule first)
