-- The host's grammar, and that of the host with an extension, are parts of the world.
use Rattle.std.proofs.Common.{◌≡◌, ◌<◌, ◌≤◌, ◌+◌, ◌-◌, ◌∙◌, ℕ, List, Some, length, slice_get, refl, sym, ap, subst, inl, inr, arith}
use Rattle.std.proofs.lemmas.Bool.{cases_lt}
use Rattle.std.proofs.lemmas.List.{length-append}
use Rattle.std.proofs.lemmas.Option.{same_Some, slice_get_within}
use Rattle.wb_base.specs.declared.symbol.Symbol.{Symbol}
use Rattle.wb_base.specs.declared.symbol.Symbol.TheVariants.{Nonterminal}
use Rattle.wb_base.specs.Grammar.{GrammarView, IsProductionBelow, Production}
use Rattle.wb_grammar_theory.specs.Productions.{IsProduction}
use Rattle.wb_grammar_theory.proofs.ProductionLemmas.{production_below}
use Rattle.wb_lemmas.proofs.Places.{append_before, append_keeps}
use Rattle.wb_compose_theory.specs.Blocks.{lift, spread}
use Rattle.wb_compose_theory.specs.Worlds.{Has, IsSymbolIn, alone, plain}
use Rattle.wb_compose_theory_grammar.specs.Numberings.{cut_of, names_in}
use Rattle.wb_compose_theory_grammar.specs.Cuts.{no_cut}
use Rattle.wb_compose_theory_grammar.specs.Pieces.{Piece, ArePieces}
use Rattle.wb_compose_theory_grammar.specs.Places.{count_before, total_of}
use Rattle.wb_compose_theory_grammar.specs.Unions.{added_nonterminals, added_productions, added_terminals}
use Rattle.wb_compose_theory_grammar.specs.UnitedWorlds.{nonterminal_sizes, production_sizes, terminal_sizes}
use Rattle.wb_compose_theory_grammar.proofs.CutLemmas.{Covers, Rule, Sizes}
use Rattle.wb_compose_theory_grammar.proofs.RangeLemmas.{agree, stays}
use Rattle.wb_compose_theory_grammar.proofs.FactLemmas as fact
use Rattle.wb_compose_theory_grammar.proofs.FactLemmas.{W, ProductionOf, extension_facts, hole_facts, host_facts, into_by, piece_at}
use Rattle.wb_compose_theory_grammar.proofs.FactLemmas.{production_view}
use Rattle.wb_compose_theory_grammar.proofs.FactLemmas.{size_at, top_facts}
use Rattle.wb_compose_theory_grammar.proofs.BridgeLemmas.{piece_ok}
use Rattle.wb_compose_theory_grammar.proofs.PlaceLemmas.{Located, after_all, in_extension, in_host, lift_below, lift_past, located}
use Rattle.wb_compose_theory_grammar.proofs.PlaceLemmas.{spread_below}
use Rattle.wb_compose_theory_grammar.proofs.PlaceLemmas.{spread_middle, within_total}
use Rattle.wb_compose_theory_grammar.proofs.SymbolLemmas.{host_nonterminal, moved_own_nonterminal, piece_nonterminal, rest_nonterminal}

-- numbers that move up, among those of all
pub lift_is_spread : (own before size total t : ℕ) → t < own + size → lift own (0 + before) t ≡ spread own before size total t
lift_is_spread own before size total t below = elim (cases_lt t own) [
  | inl near ↦ lift_below own (0 + before) t near ∙ sym (spread_below own before size total t near)
  | inr far ↦
      (let same : t + (0 + before) ≡ t + before = omega arith in
      lift_past own (0 + before) t far ∙ (same ∙ sym (spread_middle own before size total t far below)))
]

module _ (g : GrammarView) (extensible : List ℕ) (pieces : List Piece) (ok : ArePieces g extensible pieces) where
  -- the host's grammar
  pub host_covers : Covers g extensible pieces g plain no_cut
  host_covers = record {
    sizes = record {
      is_grammar = ok.is_grammar;
      start = refl;
      terminals = omega arith;
      nonterminals = omega arith;
      productions = omega arith;
      terminals_fit = omega arith;
      nonterminals_fit = omega arith;
      productions_fit = omega arith;
    };
    rule = rule;
    onto = onto;
    within = λ a less. subst (Has plain) (sym (ap (λ z. (W g extensible pieces).symbol_owner (Nonterminal z)) (nonterminal_stays a less) ∙
        host_nonterminal g extensible pieces a less)) tt;
    nonterminal_onto = nonterminal_onto;
  }
    where
      nonterminal_stays : (a : ℕ) → a < g.nonterminals → (names_in g extensible pieces no_cut 0).nonterminal a ≡ a
      nonterminal_stays a less = spread_below g.nonterminals 0 0 (total_of (nonterminal_sizes g extensible pieces)) a less

      production_stays : (p a : ℕ) (right : List Symbol) → IsProduction g p a right →
          (names_in g extensible pieces no_cut 0).production p ≡ p
      production_stays p a right rule = spread_below (length g.productions) 0 0 (total_of (production_sizes g extensible pieces) + 0) p
          (slice_get_within g.productions p (a, right) rule)

      rule : (p a : ℕ) (right : List Symbol) → IsProduction g p a right →
          Rule g extensible pieces plain (names_in g extensible pieces no_cut 0) p a right
      rule p a right is =
          let facts = host_facts g extensible pieces p a right is in
          let same = production_stays p a right is in
          let below = production_below g p a right ok.is_grammar is in
          record {
            has = subst (Has plain) (sym (ap (W g extensible pieces).production_owner same ∙ facts.owner)) tt;
            left = ap (W g extensible pieces).left same ∙ (facts.left ∙ sym (nonterminal_stays a below.left));
            right_is = ap (W g extensible pieces).right same ∙ (facts.right_is ∙
                sym (stays (names_in g extensible pieces no_cut 0) g.terminals g.nonterminals
                (λ t less. spread_below g.terminals 0 0 (total_of (terminal_sizes g extensible pieces) + 0) t less) nonterminal_stays
                right below.right));
          }

      onto : (q : ℕ) → Has plain ((W g extensible pieces).production_owner q) → (p a : ℕ) × (right : List Symbol) ×
          IsProduction g p a right × (q ≡ (names_in g extensible pieces no_cut 0).production p)
      onto q has = go (production_view g extensible pieces q)
        where
          go : ProductionOf g extensible pieces q → (p a : ℕ) × (right : List Symbol) ×
              IsProduction g p a right × (q ≡ (names_in g extensible pieces no_cut 0).production p)
          go (fact.of_grammar a right is) = (q, a, right, is, sym (production_stays q a right is))
          go (fact.of_piece k x i a right at is place) =
              absurd (subst (Has plain) (extension_facts g extensible pieces k x i a right q at is place).owner has)
          go (fact.of_hole j a at place) = absurd (subst (Has plain) (hole_facts g extensible pieces j a q at place).owner has)
          go (fact.of_rest j place) = absurd (subst (Has plain) (top_facts g extensible pieces j q place).0 has)

      nonterminal_onto : (b : ℕ) → IsSymbolIn (W g extensible pieces) plain (Nonterminal b) →
          (a : ℕ) × (a < g.nonterminals) × (b ≡ (names_in g extensible pieces no_cut 0).nonterminal a)
      nonterminal_onto b has = go (located g.nonterminals (nonterminal_sizes g extensible pieces) b)
        where
          go : Located g.nonterminals (nonterminal_sizes g extensible pieces) b →
              (a : ℕ) × (a < g.nonterminals) × (b ≡ (names_in g extensible pieces no_cut 0).nonterminal a)
          go (in_host below) = (b, below, sym (nonterminal_stays b below))
          go (in_extension k size i at within is) =
              let (x, x_at, size_is) = piece_at g extensible pieces (added_nonterminals g) k size at in
              absurd (subst (Has plain) (piece_nonterminal g extensible pieces k x i b x_at (omega (arith, within, size_is)) is) has)
          go (after_all j is) = absurd (subst (Has plain) (rest_nonterminal g extensible pieces j b is) has)

  -- the grammar of an extension with the host
  module _ (k : ℕ) (x : Piece) (at : slice_get pieces k ≡ Some x) where
    own_list : length x.grammar.productions ≡ length g.productions + added_productions g x.grammar
    own_list =
        let (own, is) = (piece_ok g extensible pieces ok k x at).extends.productions in
        let len = ap length is ∙ length-append g.productions own in
        omega (arith, len)

    -- how many it has
    pub piece_sizes : Sizes g extensible pieces x.grammar (cut_of g extensible pieces k x)
    piece_sizes =
        let piece = piece_ok g extensible pieces ok k x at in
        let more_terminals = piece.extends.terminals in
        let more_nonterminals = piece.extends.nonterminals in
        record {
          is_grammar = piece.is_grammar;
          start = piece.extends.start;
          terminals = omega (arith, more_terminals);
          nonterminals = omega (arith, more_nonterminals);
          productions = own_list;
          terminals_fit = within_total (terminal_sizes g extensible pieces) k (added_terminals g x.grammar)
              (size_at g extensible pieces (added_terminals g) k x at);
          nonterminals_fit = within_total (nonterminal_sizes g extensible pieces) k (added_nonterminals g x.grammar)
              (size_at g extensible pieces (added_nonterminals g) k x at);
          productions_fit = within_total (production_sizes g extensible pieces) k (added_productions g x.grammar)
              (size_at g extensible pieces (added_productions g) k x at);
        }

    -- where the names of the extension's numbers are as the union has them
    pub terminal_into : (t : ℕ) → t < x.grammar.terminals → (into_by g extensible pieces k).terminal t
        ≡ (names_in g extensible pieces (cut_of g extensible pieces k x) 0).terminal t
    terminal_into t less =
        let size = piece_sizes.terminals in
        lift_is_spread g.terminals (count_before (terminal_sizes g extensible pieces) k) (added_terminals g x.grammar)
        (total_of (terminal_sizes g extensible pieces) + 0) t (omega (arith, less, size))

    -- the same of nonterminals
    nonterminal_into : (a : ℕ) → a < x.grammar.nonterminals → (into_by g extensible pieces k).nonterminal a
        ≡ (names_in g extensible pieces (cut_of g extensible pieces k x) 0).nonterminal a
    nonterminal_into a less =
        let size = piece_sizes.nonterminals in
        lift_is_spread g.nonterminals (count_before (nonterminal_sizes g extensible pieces) k) (added_nonterminals g x.grammar)
        (total_of (nonterminal_sizes g extensible pieces)) a (omega (arith, less, size))

    -- a production of the host keeps its number
    production_below_host : (p : ℕ) → p < length g.productions →
        (names_in g extensible pieces (cut_of g extensible pieces k x) 0).production p ≡ p
    production_below_host p less = spread_below (length g.productions) (count_before (production_sizes g extensible pieces) k)
        (added_productions g x.grammar) (total_of (production_sizes g extensible pieces) + 0) p less

    -- one of its own moves up
    production_own : (i : ℕ) → i < added_productions g x.grammar →
        (names_in g extensible pieces (cut_of g extensible pieces k x) 0).production (length g.productions + i)
        ≡ length g.productions + (count_before (production_sizes g extensible pieces) k + i)
    production_own i less = spread_middle (length g.productions) (count_before (production_sizes g extensible pieces) k)
        (added_productions g x.grammar) (total_of (production_sizes g extensible pieces) + 0) (length g.productions + i)
        (omega arith) (omega (arith, less)) ∙ (omega arith)

    -- each production is one of the part
    rule_in : (p a : ℕ) (right : List Symbol) → IsProduction x.grammar p a right →
        Rule g extensible pieces (alone k) (names_in g extensible pieces (cut_of g extensible pieces k x) 0) p a right
    rule_in p a right rule = elim (cases_lt p (length g.productions)) [ inl near ↦ of_host near | inr far ↦ of_own far ]
      where
        below : IsProductionBelow x.grammar.terminals x.grammar.nonterminals (a, right)
        below = production_below x.grammar p a right piece_sizes.is_grammar rule

        of_host : p < length g.productions →
            Rule g extensible pieces (alone k) (names_in g extensible pieces (cut_of g extensible pieces k x) 0) p a right
        of_host near =
            let (own, own_is) = (piece_ok g extensible pieces ok k x at).extends.productions in
            let mine : IsProduction g p a right = sym (append_before g.productions own p near) ∙
            (ap (λ (z : List Production). slice_get z p) (sym own_is) ∙ rule) in
            let facts = host_facts g extensible pieces p a right mine in
            let same = production_below_host p near in
            let range = production_below g p a right ok.is_grammar mine in
            record {
              has = subst (Has (alone k)) (sym (ap (W g extensible pieces).production_owner same ∙ facts.owner)) tt;
              left = ap (W g extensible pieces).left same ∙ (facts.left ∙
                  sym (spread_below g.nonterminals (count_before (nonterminal_sizes g extensible pieces) k) (added_nonterminals g x.grammar)
                  (total_of (nonterminal_sizes g extensible pieces)) a range.left));
              right_is = ap (W g extensible pieces).right same ∙ (facts.right_is ∙
                  sym (stays (names_in g extensible pieces (cut_of g extensible pieces k x) 0) g.terminals g.nonterminals
                  (λ t less. spread_below g.terminals (count_before (terminal_sizes g extensible pieces) k) (added_terminals g x.grammar)
                  (total_of (terminal_sizes g extensible pieces) + 0) t less)
                  (λ b less. spread_below g.nonterminals (count_before (nonterminal_sizes g extensible pieces) k)
                  (added_nonterminals g x.grammar)
                  (total_of (nonterminal_sizes g extensible pieces)) b less) right range.right));
            }

        of_own : length g.productions ≤ p →
            Rule g extensible pieces (alone k) (names_in g extensible pieces (cut_of g extensible pieces k x) 0) p a right
        of_own far =
            let len = own_list in
            let less = slice_get_within x.grammar.productions p (a, right) rule in
            let there : length g.productions + (p - length g.productions) ≡ p = omega (arith, far) in
            let place = ap (names_in g extensible pieces (cut_of g extensible pieces k x) 0).production (sym there) ∙
            production_own (p - length g.productions) (omega (arith, len, less, far)) in
            let facts = extension_facts g extensible pieces k x (p - length g.productions) a right
            ((names_in g extensible pieces (cut_of g extensible pieces k x) 0).production p) at
            (subst (λ z. IsProduction x.grammar z a right) (sym there) rule) place in
            record {
              has = subst (Has (alone k)) (sym facts.owner) refl;
              left = facts.left ∙ nonterminal_into a below.left;
              right_is = facts.right_is ∙ agree (into_by g extensible pieces k)
                  (names_in g extensible pieces (cut_of g extensible pieces k x) 0) x.grammar.terminals x.grammar.nonterminals
                  terminal_into nonterminal_into right below.right;
            }

    -- and each production of the part is one of it
    onto_in : (q : ℕ) → Has (alone k) ((W g extensible pieces).production_owner q) → (p a : ℕ) × (right : List Symbol) ×
        IsProduction x.grammar p a right × (q ≡ (names_in g extensible pieces (cut_of g extensible pieces k x) 0).production p)
    onto_in q has = go (production_view g extensible pieces q)
      where
        same_piece : (l : ℕ) (y : Piece) → slice_get pieces l ≡ Some y → l ≡ k → y ≡ x
        same_piece l y y_at is = same_Some y x (sym y_at ∙ (ap (slice_get pieces) is ∙ at))

        go : ProductionOf g extensible pieces q → (p a : ℕ) × (right : List Symbol) ×
            IsProduction x.grammar p a right × (q ≡ (names_in g extensible pieces (cut_of g extensible pieces k x) 0).production p)
        go (fact.of_grammar a right is) =
            let (own, own_is) = (piece_ok g extensible pieces ok k x at).extends.productions in (
              q,
              a,
              right,
              ap (λ (z : List Production). slice_get z q) own_is ∙ append_keeps g.productions own q (a, right) is,
              sym (production_below_host q (slice_get_within g.productions q (a, right) is)),
            )
        go (fact.of_piece l y i a right y_at is place) =
            let l_is : l ≡ k = subst (Has (alone k)) (extension_facts g extensible pieces l y i a right q y_at is place).owner has in
            let y_is : y ≡ x = same_piece l y y_at l_is in
            let mine : IsProduction x.grammar (length g.productions + i) a right =
            subst (λ z. IsProduction z.grammar (length g.productions + i) a right) y_is is in
            let less = slice_get_within x.grammar.productions (length g.productions + i) (a, right) mine in
            let len = own_list in (
              length g.productions + i,
              a,
              right,
              mine,
              place ∙ (ap (λ z. length g.productions + (count_before (production_sizes g extensible pieces) z + i)) l_is ∙
                  sym (production_own i (omega (arith, less, len)))),
            )
        go (fact.of_hole j a j_at place) = absurd (subst (Has (alone k)) (hole_facts g extensible pieces j a q j_at place).owner has)
        go (fact.of_rest j place) = absurd (subst (Has (alone k)) (top_facts g extensible pieces j q place).0 has)

    -- each nonterminal is one of the part
    within_in : (a : ℕ) → a < x.grammar.nonterminals → IsSymbolIn (W g extensible pieces) (alone k)
        (Nonterminal ((names_in g extensible pieces (cut_of g extensible pieces k x) 0).nonterminal a))
    within_in a less = subst (λ z. IsSymbolIn (W g extensible pieces) (alone k) (Nonterminal z)) (nonterminal_into a less)
        (elim (cases_lt a g.nonterminals) [
          | inl near ↦ subst (Has (alone k)) (sym (ap (λ z. (W g extensible pieces).symbol_owner (Nonterminal z))
              (lift_below g.nonterminals (0 + count_before (nonterminal_sizes g extensible pieces) k) a near) ∙
              host_nonterminal g extensible pieces a near)) tt
          | inr far ↦ subst (Has (alone k)) (sym (moved_own_nonterminal g extensible pieces k x a at less far)) refl
        ])

    -- and each nonterminal of the part is one of it
    nonterminal_onto_in : (b : ℕ) → IsSymbolIn (W g extensible pieces) (alone k) (Nonterminal b) → (a : ℕ) × (a < x.grammar.nonterminals) ×
        (b ≡ (names_in g extensible pieces (cut_of g extensible pieces k x) 0).nonterminal a)
    nonterminal_onto_in b has = go (located g.nonterminals (nonterminal_sizes g extensible pieces) b)
      where
        size : x.grammar.nonterminals ≡ g.nonterminals + added_nonterminals g x.grammar
        size = piece_sizes.nonterminals

        go : Located g.nonterminals (nonterminal_sizes g extensible pieces) b → (a : ℕ) × (a < x.grammar.nonterminals) ×
            (b ≡ (names_in g extensible pieces (cut_of g extensible pieces k x) 0).nonterminal a)
        go (in_host below) = (
          b,
          omega (arith, below, size),
          sym (spread_below g.nonterminals (count_before (nonterminal_sizes g extensible pieces) k) (added_nonterminals g x.grammar)
              (total_of (nonterminal_sizes g extensible pieces)) b below),
        )
        go (in_extension l l_size i l_at within is) =
            let (y, y_at, size_is) = piece_at g extensible pieces (added_nonterminals g) l l_size l_at in
            let l_is : l ≡ k = subst (Has (alone k))
            (piece_nonterminal g extensible pieces l y i b y_at (omega (arith, within, size_is)) is) has in
            let y_is : y ≡ x = same_Some y x (sym y_at ∙ (ap (slice_get pieces) l_is ∙ at)) in
            let here : l_size ≡ added_nonterminals g x.grammar = size_is ∙ ap (λ z. added_nonterminals g z.grammar) y_is in
            let less : i < added_nonterminals g x.grammar = omega (arith, within, here) in (
              g.nonterminals + i,
              omega (arith, less, size),
              is ∙ (ap (λ z. g.nonterminals + (count_before (nonterminal_sizes g extensible pieces) z + i)) l_is ∙
                  ((omega arith) ∙ sym (spread_middle g.nonterminals (count_before (nonterminal_sizes g extensible pieces) k)
                  (added_nonterminals g x.grammar) (total_of (nonterminal_sizes g extensible pieces)) (g.nonterminals + i) (omega arith)
                  (omega (arith, less))))),
            )
        go (after_all j is) = absurd (subst (Has (alone k)) (rest_nonterminal g extensible pieces j b is) has)

    -- so it is the part
    pub piece_covers : Covers g extensible pieces x.grammar (alone k) (cut_of g extensible pieces k x)
    piece_covers = record {
      sizes = piece_sizes;
      rule = rule_in;
      onto = onto_in;
      within = within_in;
      nonterminal_onto = nonterminal_onto_in;
    }
