-- The union is a grammar.
use Rattle.std.proofs.Common.{◌≡◌, ◌<◌, ◌≤◌, ◌+◌, ◌∙◌, ◌∷◌, [], ℕ, List, Some, length, map, slice_get, sym, ap, subst, inl, inr, arith}
use Rattle.std.specs.Prelude.{All}
use Rattle.std.proofs.lemmas.Bool.{cases_lt}
use Rattle.std.proofs.lemmas.List.Elements.{All-cons, All-head, All-nil, All-tail}
use Rattle.std.proofs.lemmas.Option.{slice_get_within}
use Rattle.wb_base.specs.declared.symbol.Symbol.{Symbol}
use Rattle.wb_base.specs.declared.symbol.Symbol.TheVariants.{Terminal, Nonterminal}
use Rattle.wb_base.specs.Grammar.{GrammarView, IsGrammar, IsProductionBelow, IsSymbolBelow, Production}
use Rattle.wb_grammar_theory.specs.Productions.{IsProduction}
use Rattle.wb_grammar_theory.proofs.DotLemmas.{after_initial}
use Rattle.wb_grammar_theory.proofs.ProductionLemmas.{production_below}
use Rattle.wb_lemmas.proofs.Elements.{all_from_places}
use Rattle.wb_lemmas.proofs.Places.{append_keeps}
use Rattle.wb_marking_holes.specs.Holes.{hole_productions}
use Rattle.wb_compose_theory.specs.Renamings.{renamed}
use Rattle.wb_compose_theory_grammar.specs.Pieces.{Piece, ArePieces}
use Rattle.wb_compose_theory_grammar.specs.Places.{count_before}
use Rattle.wb_compose_theory_grammar.specs.Unions.{added_nonterminals, added_terminals}
use Rattle.wb_compose_theory_grammar.specs.UnitedWorlds.{left_in, nonterminal_sizes, terminal_sizes, united}
use Rattle.wb_compose_theory_grammar.proofs.FactLemmas as fact
use Rattle.wb_compose_theory_grammar.proofs.FactLemmas.{V, W, ProductionOf, extension_facts, host_facts, into_by, production_view, size_at}
use Rattle.wb_compose_theory_grammar.proofs.FactLemmas.{united_len}
use Rattle.wb_compose_theory_grammar.proofs.FactLemmas.{with_holes_len}
use Rattle.wb_compose_theory_grammar.proofs.BridgeLemmas.{piece_ok}
use Rattle.wb_compose_theory_grammar.proofs.PlaceLemmas.{lift_below, lift_past, within_total}

-- symbols in a smaller range
wider : (t n more_t more_n : ℕ) → t ≤ more_t → n ≤ more_n → (xs : List Symbol) → All (IsSymbolBelow t n) xs →
    All (IsSymbolBelow more_t more_n) xs
wider t n more_t more_n a b [] all = All-nil (IsSymbolBelow more_t more_n)
wider t n more_t more_n a b (Terminal u ∷ xs) all =
    let head : u < t = All-head (IsSymbolBelow t n) (Terminal u) xs all in
    let less : u < more_t = omega (arith, head, a) in
    All-cons (IsSymbolBelow more_t more_n) (Terminal u) xs less
    (wider t n more_t more_n a b xs (All-tail (IsSymbolBelow t n) (Terminal u) xs all))
wider t n more_t more_n a b (Nonterminal u ∷ xs) all =
    let head : u < n = All-head (IsSymbolBelow t n) (Nonterminal u) xs all in
    let less : u < more_n = omega (arith, head, b) in
    All-cons (IsSymbolBelow more_t more_n) (Nonterminal u) xs less
    (wider t n more_t more_n a b xs (All-tail (IsSymbolBelow t n) (Nonterminal u) xs all))

module _ (g : GrammarView) (extensible : List ℕ) (pieces : List Piece) (ok : ArePieces g extensible pieces) where
  -- a production of the union, in the world
  pub united_rule : (p a : ℕ) (right : List Symbol) → IsProduction (united g extensible pieces) p a right →
      IsProduction (V g extensible pieces) p a right
  united_rule p a right rule = append_keeps (united g extensible pieces).productions
      (hole_productions (united g extensible pieces).terminals extensible) p (a, right) rule

  -- what an extension's numbers become is in the union's range
  pub terminal_below : (k : ℕ) (x : Piece) (t : ℕ) → slice_get pieces k ≡ Some x → t < x.grammar.terminals →
      (into_by g extensible pieces k).terminal t < (united g extensible pieces).terminals
  terminal_below k x t at less = elim (cases_lt t g.terminals) [ inl near ↦ low near | inr far ↦ high far ]
    where
      low : t < g.terminals → (into_by g extensible pieces k).terminal t < (united g extensible pieces).terminals
      low near =
          let same = lift_below g.terminals (0 + count_before (terminal_sizes g extensible pieces) k) t near in
          omega (arith, same, near)

      high : g.terminals ≤ t → (into_by g extensible pieces k).terminal t < (united g extensible pieces).terminals
      high far =
          let same = lift_past g.terminals (0 + count_before (terminal_sizes g extensible pieces) k) t far in
          let fits = within_total (terminal_sizes g extensible pieces) k (added_terminals g x.grammar)
          (size_at g extensible pieces (added_terminals g) k x at) in
          omega (arith, same, far, less, fits)

  -- the same of nonterminals
  nonterminal_below : (k : ℕ) (x : Piece) (a : ℕ) → slice_get pieces k ≡ Some x → a < x.grammar.nonterminals →
      (into_by g extensible pieces k).nonterminal a < (united g extensible pieces).nonterminals
  nonterminal_below k x a at less = elim (cases_lt a g.nonterminals) [ inl near ↦ low near | inr far ↦ high far ]
    where
      low : a < g.nonterminals → (into_by g extensible pieces k).nonterminal a < (united g extensible pieces).nonterminals
      low near =
          let same = lift_below g.nonterminals (0 + count_before (nonterminal_sizes g extensible pieces) k) a near in
          omega (arith, same, near)

      high : g.nonterminals ≤ a → (into_by g extensible pieces k).nonterminal a < (united g extensible pieces).nonterminals
      high far =
          let same = lift_past g.nonterminals (0 + count_before (nonterminal_sizes g extensible pieces) k) a far in
          let fits = within_total (nonterminal_sizes g extensible pieces) k (added_nonterminals g x.grammar)
          (size_at g extensible pieces (added_nonterminals g) k x at) in
          omega (arith, same, far, less, fits)

  -- and of symbols
  symbols_below : (k : ℕ) (x : Piece) → slice_get pieces k ≡ Some x → (xs : List Symbol) →
      All (IsSymbolBelow x.grammar.terminals x.grammar.nonterminals) xs →
      All (IsSymbolBelow (united g extensible pieces).terminals (united g extensible pieces).nonterminals)
      (map (renamed (into_by g extensible pieces k)) xs)
  symbols_below k x at [] all = All-nil (IsSymbolBelow (united g extensible pieces).terminals (united g extensible pieces).nonterminals)
  symbols_below k x at (Terminal t ∷ xs) all =
      All-cons (IsSymbolBelow (united g extensible pieces).terminals (united g extensible pieces).nonterminals)
      (Terminal ((into_by g extensible pieces k).terminal t)) (map (renamed (into_by g extensible pieces k)) xs)
      (terminal_below k x t at (All-head (IsSymbolBelow x.grammar.terminals x.grammar.nonterminals) (Terminal t) xs all))
      (symbols_below k x at xs (All-tail (IsSymbolBelow x.grammar.terminals x.grammar.nonterminals) (Terminal t) xs all))
  symbols_below k x at (Nonterminal a ∷ xs) all =
      All-cons (IsSymbolBelow (united g extensible pieces).terminals (united g extensible pieces).nonterminals)
      (Nonterminal ((into_by g extensible pieces k).nonterminal a)) (map (renamed (into_by g extensible pieces k)) xs)
      (nonterminal_below k x a at (All-head (IsSymbolBelow x.grammar.terminals x.grammar.nonterminals) (Nonterminal a) xs all))
      (symbols_below k x at xs (All-tail (IsSymbolBelow x.grammar.terminals x.grammar.nonterminals) (Nonterminal a) xs all))

  -- a production of the world whose sides are known
  sides : (p a b : ℕ) (right other : List Symbol) → IsProduction (united g extensible pieces) p a right →
      (W g extensible pieces).left p ≡ b → (W g extensible pieces).right p ≡ other → (a ≡ b) × (right ≡ other)
  sides p a b right other rule left_is right_is = (
    sym (ap left_in (united_rule p a right rule)) ∙ left_is,
    sym (after_initial (V g extensible pieces) p a right (united_rule p a right rule)) ∙ right_is,
  )

  -- each production of the union is in its range
  pub below_at : (p : ℕ) (rule : Production) → slice_get (united g extensible pieces).productions p ≡ Some rule →
      IsProductionBelow (united g extensible pieces).terminals (united g extensible pieces).nonterminals rule
  below_at p rule at = go (production_view g extensible pieces p)
    where
      in_range : p < length (united g extensible pieces).productions
      in_range = slice_get_within (united g extensible pieces).productions p rule at

      go : ProductionOf g extensible pieces p →
          IsProductionBelow (united g extensible pieces).terminals (united g extensible pieces).nonterminals rule
      go (fact.of_grammar a right is) =
          let facts = host_facts g extensible pieces p a right is in
          let (a_is, right_is) = sides p rule.0 a rule.1 right at facts.left facts.right_is in
          let below = production_below g p a right ok.is_grammar is in
          let less = below.left in
          let low : g.terminals ≤ (united g extensible pieces).terminals = omega arith in
          let few : g.nonterminals ≤ (united g extensible pieces).nonterminals = omega arith in
          record {
            left = omega (arith, less, few, a_is);
            right = subst (All (IsSymbolBelow (united g extensible pieces).terminals (united g extensible pieces).nonterminals))
                (sym right_is)
                (wider g.terminals g.nonterminals (united g extensible pieces).terminals (united g extensible pieces).nonterminals low few
                right below.right);
          }
      go (fact.of_piece k x i a right x_at is place) =
          let facts = extension_facts g extensible pieces k x i a right p x_at is place in
          let (a_is, right_is) = sides p rule.0 ((into_by g extensible pieces k).nonterminal a) rule.1
          (map (renamed (into_by g extensible pieces k)) right) at facts.left facts.right_is in
          let below = production_below x.grammar (length g.productions + i) a right (piece_ok g extensible pieces ok k x x_at).is_grammar
          is in
          record {
            left = subst (λ z. z < (united g extensible pieces).nonterminals) (sym a_is) (nonterminal_below k x a x_at below.left);
            right = subst (All (IsSymbolBelow (united g extensible pieces).terminals (united g extensible pieces).nonterminals))
                (sym right_is)
                (symbols_below k x x_at right below.right);
          }
      go (fact.of_hole j a j_at place) = absurd (omega (arith, in_range, place))
      go (fact.of_rest j place) =
          let len = with_holes_len g extensible pieces in
          let own = united_len g extensible pieces in
          absurd (omega (arith, in_range, place, len, own))

  -- the union is a grammar
  pub united_grammar : IsGrammar (united g extensible pieces)
  united_grammar = record {
    start_below = (let below = ok.is_grammar.start_below in omega (arith, below));
    productions_below = all_from_places (IsProductionBelow (united g extensible pieces).terminals (united g extensible pieces).nonterminals)
        (united g extensible pieces).productions below_at;
  }
