-- The union's grammar is a part of the world.
use Rattle.std.proofs.Common.{◌≡◌, ◌<◌, ◌+◌, ◌∙◌, ℕ, List, length, refl, sym, ap, subst, inl, inr, arith}
use Rattle.std.proofs.lemmas.Bool.{cases_lt}
use Rattle.std.proofs.lemmas.Option.{slice_get_within}
use Rattle.wb_base.specs.declared.symbol.Symbol.{Symbol}
use Rattle.wb_base.specs.declared.symbol.Symbol.TheVariants.{Nonterminal}
use Rattle.wb_base.specs.Grammar.{GrammarView}
use Rattle.wb_grammar_theory.specs.Productions.{IsProduction}
use Rattle.wb_grammar_theory.proofs.DotLemmas.{after_initial}
use Rattle.wb_lemmas.proofs.Places.{at_within}
use Rattle.wb_compose_theory.specs.Worlds.{Has, IsSymbolIn, union}
use Rattle.wb_compose_theory_grammar.specs.Numberings.{names_in, whole_cut}
use Rattle.wb_compose_theory_grammar.specs.Pieces.{Piece, ArePieces}
use Rattle.wb_compose_theory_grammar.specs.Places.{total_of}
use Rattle.wb_compose_theory_grammar.specs.Unions.{added_nonterminals, added_productions}
use Rattle.wb_compose_theory_grammar.specs.UnitedWorlds.{left_in, nonterminal_sizes, production_sizes, terminal_sizes, united}
use Rattle.wb_compose_theory_grammar.proofs.CutLemmas.{Covers, Rule}
use Rattle.wb_compose_theory_grammar.proofs.RangeLemmas.{stays}
use Rattle.wb_compose_theory_grammar.proofs.FactLemmas as fact
use Rattle.wb_compose_theory_grammar.proofs.FactLemmas.{V, W, ProductionOf, extension_facts, hole_facts, host_facts, piece_at}
use Rattle.wb_compose_theory_grammar.proofs.FactLemmas.{production_view}
use Rattle.wb_compose_theory_grammar.proofs.FactLemmas.{size_at, top_facts, united_len, with_holes_len}
use Rattle.wb_compose_theory_grammar.proofs.PlaceLemmas.{Located, after_all, in_extension, in_host, located, spread_below, spread_middle}
use Rattle.wb_compose_theory_grammar.proofs.PlaceLemmas.{within_total}
use Rattle.wb_compose_theory_grammar.proofs.SymbolLemmas.{host_nonterminal, piece_nonterminal, rest_nonterminal}
use Rattle.wb_compose_theory_grammar.proofs.UnionGrammarLemmas.{below_at, united_grammar, united_rule}

module _ (g : GrammarView) (extensible : List ℕ) (pieces : List Piece) (ok : ArePieces g extensible pieces) where
  -- numbers of the union are their own names
  pub terminal_stays : (t : ℕ) → t < (united g extensible pieces).terminals →
      (names_in g extensible pieces (whole_cut g extensible pieces) 0).terminal t ≡ t
  terminal_stays t less = elim (cases_lt t g.terminals) [
    | inl near ↦ spread_below g.terminals 0 (total_of (terminal_sizes g extensible pieces))
        (total_of (terminal_sizes g extensible pieces) + 0) t near
    | inr far ↦ spread_middle g.terminals 0 (total_of (terminal_sizes g extensible pieces))
        (total_of (terminal_sizes g extensible pieces) + 0) t far less
        ∙ (omega arith)
  ]

  -- the same of nonterminals
  nonterminal_stays : (a : ℕ) → a < (united g extensible pieces).nonterminals →
      (names_in g extensible pieces (whole_cut g extensible pieces) 0).nonterminal a ≡ a
  nonterminal_stays a less = elim (cases_lt a g.nonterminals) [
    | inl near ↦ spread_below g.nonterminals 0 (total_of (nonterminal_sizes g extensible pieces))
        (total_of (nonterminal_sizes g extensible pieces)) a near
    | inr far ↦ spread_middle g.nonterminals 0 (total_of (nonterminal_sizes g extensible pieces))
        (total_of (nonterminal_sizes g extensible pieces)) a far less
        ∙ (omega arith)
  ]

  -- and of productions
  production_stays : (p : ℕ) → p < length (united g extensible pieces).productions →
      (names_in g extensible pieces (whole_cut g extensible pieces) 0).production p ≡ p
  production_stays p less = elim (cases_lt p (length g.productions)) [
    | inl near ↦ spread_below (length g.productions) 0 (total_of (production_sizes g extensible pieces))
        (total_of (production_sizes g extensible pieces) + 0) p near
    | inr far ↦
        (let len = united_len g extensible pieces in
        let within : p < length g.productions + total_of (production_sizes g extensible pieces) = omega (arith, less, len) in
        spread_middle (length g.productions) 0 (total_of (production_sizes g extensible pieces))
        (total_of (production_sizes g extensible pieces) + 0) p far within ∙ (omega arith))
  ]

  -- each production of the union is one of the part
  rule_in : (p a : ℕ) (right : List Symbol) → IsProduction (united g extensible pieces) p a right →
      Rule g extensible pieces (union (length pieces)) (names_in g extensible pieces (whole_cut g extensible pieces) 0) p a right
  rule_in p a right rule =
      let less = slice_get_within (united g extensible pieces).productions p (a, right) rule in
      let same = production_stays p less in
      let below = below_at g extensible pieces ok p (a, right) rule in
      record {
        has = subst (λ z. Has (union (length pieces)) ((W g extensible pieces).production_owner z)) (sym same)
            (owned (production_view g extensible pieces p) less);
        left = ap (W g extensible pieces).left same ∙
            (ap left_in (united_rule g extensible pieces ok p a right rule) ∙ sym (nonterminal_stays a below.left));
        right_is = ap (W g extensible pieces).right same ∙
            (after_initial (V g extensible pieces) p a right (united_rule g extensible pieces ok p a right rule) ∙
            sym (stays (names_in g extensible pieces (whole_cut g extensible pieces) 0) (united g extensible pieces).terminals
            (united g extensible pieces).nonterminals terminal_stays nonterminal_stays right below.right));
      }
    where
      owned : ProductionOf g extensible pieces p → p < length (united g extensible pieces).productions →
          Has (union (length pieces)) ((W g extensible pieces).production_owner p)
      owned (fact.of_grammar b other is) less =
          subst (Has (union (length pieces))) (sym (host_facts g extensible pieces p b other is).owner) tt
      owned (fact.of_piece k x i b other at is place) less =
          subst (Has (union (length pieces))) (sym (extension_facts g extensible pieces k x i b other p at is place).owner)
          (slice_get_within pieces k x at)
      owned (fact.of_hole j b at place) less = absurd (omega (arith, less, place))
      owned (fact.of_rest j place) less =
          let len = with_holes_len g extensible pieces in
          let own = united_len g extensible pieces in
          absurd (omega (arith, less, place, len, own))

  -- and each production of the part is one of it
  onto_in : (q : ℕ) → Has (union (length pieces)) ((W g extensible pieces).production_owner q) → (p a : ℕ) × (right : List Symbol) ×
      IsProduction (united g extensible pieces) p a right ×
      (q ≡ (names_in g extensible pieces (whole_cut g extensible pieces) 0).production p)
  onto_in q has = go (production_view g extensible pieces q)
    where
      found : q < length (united g extensible pieces).productions → (p a : ℕ) × (right : List Symbol) ×
          IsProduction (united g extensible pieces) p a right ×
          (q ≡ (names_in g extensible pieces (whole_cut g extensible pieces) 0).production p)
      found less =
          let (rule, at) = at_within (united g extensible pieces).productions q less in
          (q, rule.0, rule.1, at, sym (production_stays q less))

      go : ProductionOf g extensible pieces q → (p a : ℕ) × (right : List Symbol) ×
          IsProduction (united g extensible pieces) p a right ×
          (q ≡ (names_in g extensible pieces (whole_cut g extensible pieces) 0).production p)
      go (fact.of_grammar a right is) =
          let less = slice_get_within g.productions q (a, right) is in
          let len = united_len g extensible pieces in
          found (omega (arith, less, len))
      go (fact.of_piece k x i a right at is place) =
          let own = slice_get_within x.grammar.productions (length g.productions + i) (a, right) is in
          let fits = within_total (production_sizes g extensible pieces) k (added_productions g x.grammar)
          (size_at g extensible pieces (added_productions g) k x at) in
          let len = united_len g extensible pieces in
          found (omega (arith, own, fits, len, place))
      go (fact.of_hole j a at place) =
          absurd (subst (Has (union (length pieces))) (hole_facts g extensible pieces j a q at place).owner has)
      go (fact.of_rest j place) = absurd (subst (Has (union (length pieces))) (top_facts g extensible pieces j q place).0 has)

  -- each nonterminal is one of the part
  within_in : (a : ℕ) → a < (united g extensible pieces).nonterminals → IsSymbolIn (W g extensible pieces) (union (length pieces))
      (Nonterminal ((names_in g extensible pieces (whole_cut g extensible pieces) 0).nonterminal a))
  within_in a less = subst (λ z. IsSymbolIn (W g extensible pieces) (union (length pieces)) (Nonterminal z))
      (sym (nonterminal_stays a less))
      (go (located g.nonterminals (nonterminal_sizes g extensible pieces) a))
    where
      go : Located g.nonterminals (nonterminal_sizes g extensible pieces) a →
          IsSymbolIn (W g extensible pieces) (union (length pieces)) (Nonterminal a)
      go (in_host below) = subst (Has (union (length pieces))) (sym (host_nonterminal g extensible pieces a below)) tt
      go (in_extension k size i at within is) =
          let (x, x_at, size_is) = piece_at g extensible pieces (added_nonterminals g) k size at in
          subst (Has (union (length pieces))) (sym (piece_nonterminal g extensible pieces k x i a x_at (omega (arith, within, size_is)) is))
          (slice_get_within pieces k x x_at)
      go (after_all j is) = absurd (omega (arith, less, is))

  -- and each nonterminal of the part is one of it
  nonterminal_onto_in : (b : ℕ) → IsSymbolIn (W g extensible pieces) (union (length pieces)) (Nonterminal b) →
      (a : ℕ) × (a < (united g extensible pieces).nonterminals) ×
      (b ≡ (names_in g extensible pieces (whole_cut g extensible pieces) 0).nonterminal a)
  nonterminal_onto_in b has = go (located g.nonterminals (nonterminal_sizes g extensible pieces) b)
    where
      found : b < (united g extensible pieces).nonterminals → (a : ℕ) × (a < (united g extensible pieces).nonterminals) ×
          (b ≡ (names_in g extensible pieces (whole_cut g extensible pieces) 0).nonterminal a)
      found less = (b, less, sym (nonterminal_stays b less))

      go : Located g.nonterminals (nonterminal_sizes g extensible pieces) b → (a : ℕ) × (a < (united g extensible pieces).nonterminals) ×
          (b ≡ (names_in g extensible pieces (whole_cut g extensible pieces) 0).nonterminal a)
      go (in_host below) = found (omega (arith, below))
      go (in_extension k size i at within is) =
          let fits = within_total (nonterminal_sizes g extensible pieces) k size at in found (omega (arith, within, is, fits))
      go (after_all j is) = absurd (subst (Has (union (length pieces))) (rest_nonterminal g extensible pieces j b is) has)

  -- so it is the part
  pub union_covers : Covers g extensible pieces (united g extensible pieces) (union (length pieces)) (whole_cut g extensible pieces)
  union_covers = record {
    sizes = record {
      is_grammar = united_grammar g extensible pieces ok;
      start = refl;
      terminals = refl;
      nonterminals = refl;
      productions = united_len g extensible pieces;
      terminals_fit = omega arith;
      nonterminals_fit = omega arith;
      productions_fit = omega arith;
    };
    rule = rule_in;
    onto = onto_in;
    within = within_in;
    nonterminal_onto = nonterminal_onto_in;
  }
