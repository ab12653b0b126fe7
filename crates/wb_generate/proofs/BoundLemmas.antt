-- Each step makes one more node or leaf of a tree with few enough leaves, so there are no more steps than such trees have.
use Rattle.std.proofs.Common.{◌≡◌, ℕ, ◌+◌, zero, suc, ◌<◌, ◌≤◌, Bool, true, false, List, [], ◌∷◌, ◌++◌, length, refl, sym, ◌∙◌, ap, subst}
use Rattle.std.proofs.Common.{inl, inr, arith, Some, None}
use Rattle.std.specs.Prelude.{All, Option, ◌==◌, slice_get, slice_index}
use Rattle.std.proofs.Math.Nat.{le-max_left, le-max_right}
use Rattle.std.proofs.lemmas.Bool.{eqb-true}
use Rattle.std.proofs.lemmas.List.Elements.{All-cons, All-head, All-nil}
use Rattle.wb_base.specs.declared.symbol.Symbol.{Symbol}
use Rattle.wb_base.specs.declared.symbol.Symbol.TheVariants.{Terminal, Nonterminal}
use Rattle.wb_base.specs.Grammar.{GrammarView, Production, IsSymbolBelow, IsGrammar}
use Rattle.wb_grammar_theory.specs.Productions.{IsProduction}
use Rattle.wb_grammar_theory.specs.Trees.{Forest, nothing, leaf, node, symbols, IsDerived}
use Rattle.wb_grammar_theory.proofs.ProductionLemmas.{production_below}
use Rattle.wb_scan_theory.specs.Bounds.{HasNoCycle, IsSized, count, fewer, nodes}
use Rattle.wb_scan_theory.specs.Machine.{joined}
use Rattle.wb_scan_theory.proofs.BackLemmas.{parts_of}
use Rattle.wb_scan_theory.proofs.ForestLemmas.{symbols_joined, derived_joined, derived_left, derived_right}
use Rattle.wb_scan_theory.proofs.TreeBounds.{count_joined, tree_bound}
use Rattle.wb_generate.specs.Counts.{AreLeast, HasTree, total}
use Rattle.wb_generate.specs.Draws.{draw, upper, candidates, chosen_of, wants}
use Rattle.wb_generate.specs.Inner.States.{State, before, IsFit}
use Rattle.wb_generate.specs.Inner.Runs.{IsUnderWay, after, bound, next, next_in, replaced_by, start_of, taken, widest, without}
use Rattle.wb_generate.proofs.ChoiceLemmas.{chosen_rule}
use Rattle.wb_generate.proofs.CountLemmas.{forest_of, reached_of, total_append}
use Rattle.wb_generate.proofs.MakeLemmas.{leads_none}
use Rattle.wb_generate.proofs.RunLemmas.{after_end, chosen_is, fit_after, goes_next, no_choice}

-- nodes and leaves
abbrev pub weight : Forest → ℕ
weight f = nodes f + count f

nodes_joined : (a b : Forest) → nodes (joined a b) ≡ nodes a + nodes b
nodes_joined nothing b = omega arith
nodes_joined (leaf t l r) b = nodes_joined r b
nodes_joined (node p a k r) b = let e : nodes (joined r b) ≡ nodes r + nodes b = nodes_joined r b in omega (arith, e)

weight_joined : (a b : Forest) → weight (joined a b) ≡ weight a + weight b
weight_joined a b = let e = nodes_joined a b in let f = count_joined a b in omega (arith, e, f)

-- trees of a form with at most so many leaves, and at least so many nodes and leaves
pub record Grown (g : GrammarView) (w : List Symbol) (most least : ℕ) : Type 0 where
  pub forest : Forest
  pub derived : IsDerived g forest
  pub roots : symbols forest ≡ w
  pub few : count forest ≤ most
  pub many : least ≤ weight forest

-- the leaves that may still come of a state
abbrev pub budget : List ℕ → State → ℕ
budget counts s = s.spare + total counts s.form

-- a tree has a node
some_weight : (g : GrammarView) (a n : ℕ) (t : HasTree g a n) → 1 ≤ weight t.tree
some_weight g a n t = by_root t.tree t.is.root
  where
    by_root : (f : Forest) → symbols f ≡ Nonterminal a ∷ [] → 1 ≤ weight f
    by_root nothing e = absurd (cc)
    by_root (leaf p l r) e = absurd (cc)
    by_root (node p b k r) e = omega arith

module _ (g : GrammarView) (limit : ℕ) (counts : List ℕ) (least : AreLeast g limit counts) where
  -- a leaf before the others
  grown_leaf : (t : ℕ) (w : List Symbol) (most many : ℕ) → Grown g w most many → Grown g (Terminal t ∷ w) (suc most) (suc many)
  grown_leaf t w most many c =
      let few : count c.forest ≤ most = c.few in
      let heavy : many ≤ nodes c.forest + count c.forest = c.many in
      record {
        forest = leaf t [] c.forest;
        derived = c.derived;
        roots = ap (λ z. Terminal t ∷ z) c.roots;
        few = omega (arith, few);
        many = omega (arith, heavy);
      }

  -- a tree without leaves before them
  grown_removed : (a : ℕ) (w : List Symbol) (most many n : ℕ) → HasTree g a n → n ≡ 0 → Grown g w most many →
      Grown g (Nonterminal a ∷ w) most (suc many)
  grown_removed a w most many n t none c =
      let few : count c.forest ≤ most = c.few in
      let heavy : many ≤ weight c.forest = c.many in
      let no_leaf : count t.tree ≡ n = t.many in
      let e : count (joined t.tree c.forest) ≡ count t.tree + count c.forest = count_joined t.tree c.forest in
      let f : weight (joined t.tree c.forest) ≡ weight t.tree + weight c.forest = weight_joined t.tree c.forest in
      let h : 1 ≤ weight t.tree = some_weight g a n t in
      record {
        forest = joined t.tree c.forest;
        derived = derived_joined g t.tree c.forest t.is.derived c.derived;
        roots = symbols_joined t.tree c.forest ∙ ap (λ z. z ++ symbols c.forest) t.is.root ∙ ap (λ z. Nonterminal a ∷ z) c.roots;
        few = omega (arith, few, no_leaf, e, none);
        many = omega (arith, heavy, f, h);
      }

  -- a node over the first of them
  grown_replaced : (p a : ℕ) (right w : List Symbol) (most many : ℕ) → IsProduction g p a right → Grown g (right ++ w) most many →
      Grown g (Nonterminal a ∷ w) most (suc many)
  grown_replaced p a right w most many rule c =
      let parts = parts_of c.forest right w c.roots in
      let split : IsDerived g (joined parts.left parts.right) = subst (λ z. IsDerived g z) parts.is c.derived in
      let few : count c.forest ≤ most = c.few in
      let heavy : many ≤ weight c.forest = c.many in
      let e : count c.forest ≡ count parts.left + count parts.right = ap count parts.is ∙ count_joined parts.left parts.right in
      let f : weight c.forest ≡ weight parts.left + weight parts.right = ap weight parts.is ∙ weight_joined parts.left parts.right in
      record {
        forest = node p a parts.left parts.right;
        derived = (
          subst (IsProduction g p a) (sym parts.left_is) rule,
          derived_left g parts.left parts.right split,
          derived_right g parts.left parts.right split,
        );
        roots = ap (λ z. Nonterminal a ∷ z) parts.right_is;
        few = omega (arith, few, e);
        many = omega (arith, heavy, f);
      }

  grown_more : (w : List Symbol) (most more many : ℕ) → most ≤ more → Grown g w most many → Grown g w more many
  grown_more w most more many le c =
      let few : count c.forest ≤ most = c.few in
      record { forest = c.forest; derived = c.derived; roots = c.roots; few = omega (arith, few, le); many = c.many }

  module _ (most : ℕ) (below : most < limit) (is : IsGrammar g) where
    grown_chosen : (a : ℕ) (s : State) (o : Option Production) →
        chosen_of (candidates g counts a s.spare (wants g counts a s.spare (upper (draw s.number)))) (upper (draw s.number)) ≡ o →
        IsFit g counts most (before (Nonterminal a) s) → (many : ℕ) →
        Grown g (replaced_by g counts a o s).form (budget counts (replaced_by g counts a o s)) many →
        Grown g (Nonterminal a ∷ s.form) (budget counts (before (Nonterminal a) s)) (suc many)
    grown_chosen a s None chosen fit many c = absurd (no_choice g limit counts most least below is a s fit chosen)
    grown_chosen a s (Some (left, right)) chosen fit many c =
        let rule = chosen_rule g counts a s.spare (upper (draw s.number)) right
        (chosen_is g counts a s.spare (upper (draw s.number)) left right chosen) in
        let few : total counts right ≤ s.spare + slice_index counts a = rule.2 in
        let e : total counts (right ++ s.form) ≡ total counts right + total counts s.form = total_append counts right s.form in
        grown_more (Nonterminal a ∷ s.form) (budget counts (replaced_by g counts a (Some (left, right)) s)) (budget counts (before (Nonterminal a) s))
        (suc many) (omega (arith, few, e)) (grown_replaced rule.0 a right s.form _ many rule.1 c)

    grown_without : (a : ℕ) (s : State) (b : Bool) → (s.spare + slice_index counts a == 0) ≡ b → IsFit g counts most (before (Nonterminal a) s) →
        (many : ℕ) → Grown g (without g counts a b s).form (budget counts (without g counts a b s)) many →
        Grown g (Nonterminal a ∷ s.form) (budget counts (before (Nonterminal a) s)) (suc many)
    grown_without a s false over fit many c = grown_chosen a s _ refl fit many c
    grown_without a s true over fit many c =
        let none : s.spare + slice_index counts a ≡ 0 = eqb-true (s.spare + slice_index counts a) 0 over in
        let lt : a < g.nonterminals = All-head (IsSymbolBelow g.terminals g.nonterminals) (Nonterminal a) s.form fit.known in
        elim (least.each a lt).reached [
          | inl e ↦ absurd (omega (arith, none, e, below))
          | inr t ↦ grown_more (Nonterminal a ∷ s.form) (budget counts s) (budget counts (before (Nonterminal a) s)) (suc many) (omega arith)
              (grown_removed a s.form (budget counts s) many (slice_index counts a) t (omega (arith, none)) c)
        ]

    grown_taken : (x : Symbol) (s : State) → IsFit g counts most (before x s) → (many : ℕ) →
        Grown g (taken g counts x s).form (budget counts (taken g counts x s)) many →
        Grown g (x ∷ s.form) (budget counts (before x s)) (suc many)
    grown_taken (Terminal t) s fit many c =
        grown_more (Terminal t ∷ s.form) (suc (budget counts s)) (budget counts (before (Terminal t) s)) (suc many)
        (omega arith) (grown_leaf t s.form (budget counts s) many c)
    grown_taken (Nonterminal a) s fit many c = grown_without a s (s.spare + slice_index counts a == 0) refl fit many c

    -- before a step there is one node or leaf more
    grown_next : (s : State) → (s.form ≡ [] → ⊥) → IsFit g counts most s → (many : ℕ) →
        Grown g (next g counts s).form (budget counts (next g counts s)) many → Grown g s.form (budget counts s) (suc many)
    grown_next s some fit many c = by_form s.form refl c
      where
        by_form : (w : List Symbol) → s.form ≡ w → Grown g (next_in g counts w s).form (budget counts (next_in g counts w s)) many →
            Grown g s.form (budget counts s) (suc many)
        by_form [] e d = absurd (some e)
        by_form (x ∷ form) e d =
            let full : State = record s { form = x ∷ form } in
            let same : full ≡ s = λ j. record s { form = sym e j } in
            subst (λ (z : State). Grown g z.form (budget counts z) (suc many)) same
            (grown_taken x (record s { form = form }) (subst (IsFit g counts most) (sym same) fit) many d)

    grown_after : (n : ℕ) (s : State) → ((after g counts n s).form ≡ [] → ⊥) → IsFit g counts most s → (many : ℕ) →
        Grown g (after g counts n s).form (budget counts (after g counts n s)) many → Grown g s.form (budget counts s) (n + many)
    grown_after zero s some fit many c = subst (Grown g s.form (budget counts s)) (omega arith) c
    grown_after (suc n) s some fit many c =
        let fit_next = (goes_next g limit counts most least below is s fit).fit in
        let rest : Grown g (next g counts s).form (budget counts (next g counts s)) (n + many) =
        grown_after n (next g counts s) some fit_next many c in
        subst (Grown g s.form (budget counts s)) (omega arith)
        (grown_next s (λ e. some (ap (λ (z : State). z.form) (after_end g limit counts (suc n) s e) ∙ e)) fit (n + many) rest)

-- the trees of a symbol
root_alone : (r : Forest) → symbols r ≡ [] → weight r ≡ 0
root_alone nothing e = refl
root_alone (leaf t l r) e = absurd (cc)
root_alone (node p a k r) e = absurd (cc)

right_within : (rules : List Production) (p a : ℕ) (right : List Symbol) → slice_get rules p ≡ Some (a, right) → length right ≤ widest rules
right_within [] p a right at = absurd (cc at)
right_within (rule ∷ rules) zero a right at =
    let same : rule ≡ (a, right) = cc in
    let e : length rule.1 ≡ length right = ap (λ (z : Production). length z.1) same in
    let h = le-max_left (length rule.1) (widest rules) in omega (arith, e, h)
right_within (rule ∷ rules) (suc p) a right at =
    let i : length right ≤ widest rules = right_within rules p a right at in
    let h = le-max_right (length rule.1) (widest rules) in omega (arith, i, h)

sized : (g : GrammarView) → IsGrammar g → IsSized g g.nonterminals (widest g.productions)
sized g is = record {
  left = λ p a right rule. (production_below g p a right is rule).left;
  right = λ p a right rule. right_within g.productions p a right rule;
}

too_many : (b f m n k : ℕ) → b ≡ suc (f + m) → 1 + n ≤ f → k ≤ m → b ≤ 1 + n + k → ⊥
too_many b f m n k is one two three = absurd (omega (arith, is, one, two, three))

-- no tree of a nonterminal has so many nodes and leaves
no_more : (g : GrammarView) → IsGrammar g → HasNoCycle g → (m a : ℕ) → Grown g (Nonterminal a ∷ []) m (bound g m) → ⊥
no_more g is acyclic m a c = by_root c.forest c.derived c.roots c.few c.many
  where
    by_root : (f : Forest) → IsDerived g f → symbols f ≡ Nonterminal a ∷ [] → count f ≤ m → bound g m ≤ weight f → ⊥
    by_root nothing d e few many = absurd (cc)
    by_root (leaf t l r) d e few many = absurd (cc)
    by_root (node p b k r) (rule, dk, dr) e few many =
        let none : symbols r ≡ [] = cc in
        let w : weight r ≡ 0 = root_alone r none in
        let within : count k ≤ m = omega (arith, few) in
        let h : 1 + nodes k ≤ fewer g.nonterminals (widest g.productions) (suc m) =
        tree_bound g g.nonterminals (widest g.productions) (sized g is) acyclic p b k m rule dk within in
        let heavy : bound g m ≤ 1 + nodes k + count k = omega (arith, many, w) in
        too_many (bound g m) (fewer g.nonterminals (widest g.productions) (suc m)) m (nodes k) (count k) refl h within heavy

-- so many steps leave nothing of the start
pub all_end : (g : GrammarView) (limit most : ℕ) (counts : List ℕ) → AreLeast g limit counts → most < limit → IsGrammar g → HasNoCycle g →
    (a : ℕ) (s : State) → s.form ≡ Nonterminal a ∷ [] → IsFit g counts most s → (after g counts (bound g (budget counts s)) s).form ≡ []
all_end g limit most counts least below is acyclic a s alone fit = by_form (after g counts many s).form refl
  where
    many : ℕ
    many = bound g (budget counts s)

    by_form : (w : List Symbol) → (after g counts many s).form ≡ w → (after g counts many s).form ≡ []
    by_form [] e = e
    by_form (x ∷ form) e =
        let t : State = after g counts many s in
        let fit_there : IsFit g counts most t = fit_after g limit counts most least below is many s fit in
        let few : t.spare + total counts t.form ≤ most = fit_there.few in
        let f = forest_of g limit counts (reached_of g limit counts least) t.form fit_there.known (omega (arith, few, below)) in
        let there : Grown g t.form (budget counts t) 0 = record {
          forest = f.forest;
          derived = f.derived;
          roots = f.roots;
          few = (let e : count f.forest ≡ total counts t.form = f.many in omega (arith, e));
          many = omega arith;
        } in
        let start : Grown g s.form (budget counts s) (many + 0) =
        grown_after g limit counts least most below is many s (λ none. absurd (cc (sym none ∙ e))) fit 0 there in
        absurd (no_more g is acyclic (budget counts s) a
        (subst (λ n. Grown g (Nonterminal a ∷ []) (budget counts s) n) (omega arith)
        (subst (λ w. Grown g w (budget counts s) (many + 0)) alone start)))

-- the start is under way
pub way_start : (g : GrammarView) (limit most : ℕ) (counts : List ℕ) → AreLeast g limit counts → most < limit → IsGrammar g → HasNoCycle g →
    (spare number : ℕ) → spare + slice_index counts g.start ≤ most → (s : State) →
    s ≡ start_of g spare number → IsUnderWay g counts most (bound g (spare + (slice_index counts g.start + 0))) (start_of g spare number) s
way_start g limit most counts least below is acyclic spare number few s same =
    let start : State = start_of g spare number in
    let known : All (IsSymbolBelow g.terminals g.nonterminals) (Nonterminal g.start ∷ []) =
    All-cons (IsSymbolBelow g.terminals g.nonterminals) (Nonterminal g.start) [] is.start_below (All-nil (IsSymbolBelow g.terminals
    g.nonterminals)) in
    let fit : IsFit g counts most start = record { known = known; few = omega (arith, few) } in
    subst (IsUnderWay g counts most (bound g (spare + (slice_index counts g.start + 0))) start) (sym same) (record {
      goes = record { fit = fit; leads = leads_none g counts start };
      ends = all_end g limit most counts least below is acyclic g.start start refl fit;
    })
