-- At a prefix of a grammar the kernel of one that begins with it holds no item of a further production.
use Rattle.std.proofs.Common.{◌≡◌, ◌≢◌, ◌<◌, ◌≤◌, ◌∙◌, ◌⊎◌, ◌∷◌, [], ℕ, Bool, List, Some, All, drop, length, slice_get, refl, sym, ap}
use Rattle.std.proofs.Common.{subst, inl, inr, arith}
use Rattle.std.proofs.lemmas.List.Elements.{All-head}
use Rattle.std.proofs.lemmas.Option.{slice_get_within}
use Rattle.wb_base.specs.declared.symbol.Symbol.{Symbol}
use Rattle.wb_base.specs.declared.symbol.Symbol.TheVariants.{Terminal, Nonterminal}
use Rattle.wb_base.specs.Grammar.{GrammarView, IsGrammar, IsSymbolBelow}
use Rattle.wb_termset.specs.Sets.{IsMember}
use Rattle.wb_grammar_theory.specs.declared.item.Item.{Item}
use Rattle.wb_grammar_theory.specs.Items.{HoldsFrom, IsKernelItem, IsValidItem, advance, after_dot, close, initial_item, move, start}
use Rattle.wb_grammar_theory.specs.Items.{start_item}
use Rattle.wb_grammar_theory.specs.Productions.{IsProduction, right_of, top_of}
use Rattle.wb_grammar_theory.proofs.DotLemmas.{after_initial, after_start}
use Rattle.wb_grammar_theory.proofs.LiveLemmas.{after_below}
use Rattle.wb_lemmas.proofs.Elements.{all_at, all_left, all_right}
use Rattle.wb_lemmas.proofs.Places.{append_keeps, at_append, at_within}
use Rattle.wb_reading_theory.specs.Grammars.{ExtendsGrammar, IsFurther, on_further, on_marker}

module _ {g k : GrammarView} {markers : List Bool} (ok : IsGrammar g) (extends : ExtendsGrammar g k markers) where
  -- the symbols are the first grammar's
  abbrev AreBelow : List Symbol → Type 0
  AreBelow symbols = All (IsSymbolBelow g.terminals g.nonterminals) symbols

  -- the item is of a production of the first grammar or of `S' -> S`, or its dot is before a marker, at the left end
  data Found (item : Item) : Type 0 where
    first : item.production < length g.productions → Found item
    top : item.production ≡ top_of k → Found item
    marked : (t : ℕ) (rest : List Symbol) → IsMember markers t → after_dot k item ≡ Terminal t ∷ rest → item.dot ≡ 0 → Found item

  -- what is after the dot of an item of a production of the first grammar, or of `S' -> S`, are its symbols
  first_below : (item : Item) → item.production < length g.productions → AreBelow (after_dot k item)
  first_below item less =
      let (rule, at) = at_within g.productions item.production less in
      let there : IsProduction k item.production rule.0 rule.1 =
      subst (λ rules. slice_get rules item.production ≡ Some rule) (sym extends.productions)
      (append_keeps g.productions extends.more item.production rule at) in
      let same : right_of k item.production ≡ right_of g item.production =
      after_initial k item.production rule.0 rule.1 there ∙ sym (after_initial g item.production rule.0 rule.1 at) in
      subst AreBelow (ap (drop item.dot) (sym same)) (after_below g ok item)

  top_below : (item : Item) → item.production ≡ top_of k → AreBelow (after_dot k item)
  top_below item is =
      let here : Item = record { production = top_of g; dot = item.dot } in
      let same : right_of k item.production ≡ right_of g (top_of g) =
      ap (right_of k) is ∙ (after_start k ∙ (ap (λ z. Nonterminal z ∷ []) extends.start ∙ sym (after_start g))) in
      subst AreBelow (ap (drop item.dot) (sym same)) (after_below g ok here)

  -- a production on a nonterminal of the first grammar is the first grammar's, or begins with a marker
  initial : (q b : ℕ) (right : List Symbol) → IsProduction k q b right → b < g.nonterminals → Found (initial_item q)
  initial q b right rule less =
      elim (at_append g.productions extends.more (b, right) q
      (subst (λ rules. slice_get rules q ≡ Some (b, right)) extends.productions rule)) [
        | inl here ↦ first (slice_get_within g.productions q (b, right) here)
        | inr (j, is, later) ↦ of_further (all_at (IsFurther g.nonterminals markers) extends.more j (b, right) extends.shape later)
      ]
    where
      of_further : IsFurther g.nonterminals markers (b, right) → Found (initial_item q)
      of_further (on_further low) = absurd (omega (arith, low, less))
      of_further (on_marker t rest mark is) = marked t rest mark (after_initial k q b right rule ∙ is) refl

  closed : (item : Item) (b : ℕ) (rest : List Symbol) (q : ℕ) (right : List Symbol) → after_dot k item ≡ Nonterminal b ∷ rest →
      IsProduction k q b right → Found item → Found (initial_item q)
  closed item b rest q right is rule (first less) =
      initial q b right rule
      (All-head (IsSymbolBelow g.terminals g.nonterminals) (Nonterminal b) rest (subst AreBelow is (first_below item less)))
  closed item b rest q right is rule (top same) =
      initial q b right rule
      (All-head (IsSymbolBelow g.terminals g.nonterminals) (Nonterminal b) rest (subst AreBelow is (top_below item same)))
  closed item b rest q right is rule (marked t rest' mark after left) =
      let e : Terminal t ∷ rest' ≡ Nonterminal b ∷ rest = sym after ∙ is in cc

  moved : (item : Item) (x : Symbol) (rest : List Symbol) → after_dot k item ≡ x ∷ rest → IsSymbolBelow g.terminals g.nonterminals x →
      Found item → Found (advance item)
  moved item x rest is below (first less) = first less
  moved item x rest is below (top same) = top same
  moved item x rest is below (marked t rest' mark after left) =
      let e : Terminal t ∷ rest' ≡ x ∷ rest = sym after ∙ is in
      let same : x ≡ Terminal t = cc in
      let less : t < g.terminals = subst (IsSymbolBelow g.terminals g.nonterminals) same below in
      let low = (extends.marking t mark).0 in absurd (omega (arith, less, low))

  -- the items of the second grammar at a list of the first one's symbols
  found : {prefix : List Symbol} {item : Item} {t : ℕ} → IsValidItem k prefix item t → AreBelow prefix → Found item
  found start all = top refl
  found (close item t b rest q u right v is rule before) all = closed item b rest q right is rule (found v all)
  found (move item x rest prefix v is longer_is moved_is) all =
      let both = subst AreBelow longer_is all in
      let last = All-head (IsSymbolBelow g.terminals g.nonterminals) x []
      (all_right (IsSymbolBelow g.terminals g.nonterminals) prefix (x ∷ []) both) in
      subst Found (sym moved_is)
      (moved item x rest is last (found v (all_left (IsSymbolBelow g.terminals g.nonterminals) prefix (x ∷ []) both)))

  -- those of its kernel are of the first grammar's productions or of `S' -> S`
  kernel : (prefix : List Symbol) (item : Item) → AreBelow prefix → IsKernelItem k prefix item →
      (item.production < length g.productions) ⊎ (item.production ≡ top_of k)
  kernel prefix item all ((t, v), which) = by (found v all) which
    where
      by : Found item → (item.dot ≢ 0) ⊎ ((item ≡ start_item k) × (prefix ≡ [])) →
          (item.production < length g.productions) ⊎ (item.production ≡ top_of k)
      by (first less) which = inl less
      by (top same) which = inr same
      by (marked t rest mark after left) (inl ne) = absurd (ne left)
      by (marked t rest mark after left) (inr (is, none_before)) = inr (ap (λ (z : Item). z.production) is)

  -- so none is of a further production
  pub holds_none : (prefix : List Symbol) → AreBelow prefix → (from to : ℕ) → length g.productions ≤ from → to ≤ length k.productions →
      ¬ HoldsFrom k prefix from to
  holds_none prefix all from to low high (item, is, after, before) = elim (kernel prefix item all is) [
    | inl less ↦ omega (arith, less, low, after)
    | inr same ↦ omega (arith, same, high, before)
  ]
