-- A grammar that has the host's productions and a stretch of the extensions' is a part of the world, without holes and with them.
use Rattle.std.proofs.Common.{◌≡◌, ◌<◌, ◌≤◌, ◌+◌, ◌∙◌, ◌⊎◌, ◌∷◌, [], ℕ, List, Some, length, map, slice_get, refl, sym, ap, subst, inl}
use Rattle.std.proofs.Common.{inr, arith}
use Rattle.std.proofs.lemmas.List.{length-append}
use Rattle.std.proofs.lemmas.Option.{slice_get_within}
use Rattle.wb_base.specs.declared.symbol.Symbol.{Symbol}
use Rattle.wb_base.specs.declared.symbol.Symbol.TheVariants.{Terminal, Nonterminal}
use Rattle.wb_base.specs.Grammar.{GrammarView, IsGrammar}
use Rattle.wb_grammar_theory.specs.Productions.{IsProduction, end_of, top_of}
use Rattle.wb_grammar_theory.proofs.DotLemmas.{after_start}
use Rattle.wb_grammar_theory.proofs.ProductionLemmas.{production_below}
use Rattle.wb_lemmas.proofs.Members.{contains_at}
use Rattle.wb_lemmas.proofs.Places.{append_after, append_keeps}
use Rattle.wb_marking_holes.specs.Holes.{hole_productions, with_holes_of}
use Rattle.wb_marking_holes.proofs.UpLemmas.{holes_len}
use Rattle.wb_compose_theory.proofs.BlockLemmas.{spread_once}
use Rattle.wb_compose_theory.specs.Renamings.{Renaming, renamed}
use Rattle.wb_compose_theory.specs.Seams.{IsNumbering}
use Rattle.wb_compose_theory.specs.Worlds.{Has, IsProductionIn, IsSymbolIn, Owner, Part, extension, hole, host, top}
use Rattle.wb_compose_theory_grammar.specs.Numberings.{names_in}
use Rattle.wb_compose_theory_grammar.specs.Cuts.{Cut}
use Rattle.wb_compose_theory_grammar.specs.Pieces.{Piece, ArePieces}
use Rattle.wb_compose_theory_grammar.specs.Places.{total_of}
use Rattle.wb_compose_theory_grammar.specs.UnitedWorlds.{nonterminal_sizes, production_sizes, terminal_sizes, united}
use Rattle.wb_compose_theory_grammar.proofs.FactLemmas as fact
use Rattle.wb_compose_theory_grammar.proofs.FactLemmas.{W, V, ProductionOf, production_view, hole_facts, host_facts, extension_facts}
use Rattle.wb_compose_theory_grammar.proofs.FactLemmas.{top_facts}
use Rattle.wb_compose_theory_grammar.proofs.FactLemmas.{united_len, with_holes_len}
use Rattle.wb_compose_theory_grammar.proofs.BridgeLemmas.{extensible_below}
use Rattle.wb_compose_theory_grammar.proofs.PlaceLemmas.{spread_below, spread_past}
use Rattle.wb_compose_theory_grammar.proofs.ProductionLemmas.{hole_production}
use Rattle.wb_compose_theory_grammar.proofs.RangeLemmas.{WithHoles, agree, of_hole, spread_same, with_holes_view, without}

module _ (g : GrammarView) (extensible : List ℕ) (pieces : List Piece) where
  -- what the world says of a production of the grammar
  pub record Rule (part : Part) (names : Renaming) (p a : ℕ) (right : List Symbol) : Type 0 where
    pub has : Has part ((W g extensible pieces).production_owner (names.production p))
    pub left : (W g extensible pieces).left (names.production p) ≡ names.nonterminal a
    pub right_is : (W g extensible pieces).right (names.production p) ≡ map (renamed names) right

  -- how many a grammar has: those of the host and of the cut
  pub record Sizes (base : GrammarView) (c : Cut) : Type 0 where
    pub is_grammar : IsGrammar base
    pub start : base.start ≡ g.start
    pub terminals : base.terminals ≡ g.terminals + c.terminals.size
    pub nonterminals : base.nonterminals ≡ g.nonterminals + c.nonterminals.size
    pub productions : length base.productions ≡ length g.productions + c.productions.size
    pub terminals_fit : c.terminals.before + c.terminals.size ≤ total_of (terminal_sizes g extensible pieces)
    pub nonterminals_fit : c.nonterminals.before + c.nonterminals.size ≤ total_of (nonterminal_sizes g extensible pieces)
    pub productions_fit : c.productions.before + c.productions.size ≤ total_of (production_sizes g extensible pieces)

  -- its nonterminals and productions are those of the part
  pub record Covers (base : GrammarView) (part : Part) (c : Cut) : Type 0 where
    pub sizes : Sizes base c
    pub rule : (p a : ℕ) (right : List Symbol) → IsProduction base p a right → Rule part (names_in g extensible pieces c 0) p a right
    pub onto : (q : ℕ) → Has part ((W g extensible pieces).production_owner q) →
        (p a : ℕ) × (right : List Symbol) × IsProduction base p a right × (q ≡ (names_in g extensible pieces c 0).production p)
    pub within : (a : ℕ) → a < base.nonterminals →
        IsSymbolIn (W g extensible pieces) part (Nonterminal ((names_in g extensible pieces c 0).nonterminal a))
    pub nonterminal_onto : (b : ℕ) → IsSymbolIn (W g extensible pieces) part (Nonterminal b) →
        (a : ℕ) × (a < base.nonterminals) × (b ≡ (names_in g extensible pieces c 0).nonterminal a)

  module _ (ok : ArePieces g extensible pieces) (base : GrammarView) (part : Part) (c : Cut) (covers : Covers base part c) where
    start_names : (more : ℕ) → (names_in g extensible pieces c more).nonterminal base.start ≡ g.start
    start_names more = ap (names_in g extensible pieces c more).nonterminal covers.sizes.start ∙
        spread_below g.nonterminals c.nonterminals.before c.nonterminals.size (total_of (nonterminal_sizes g extensible pieces)) g.start
        ok.is_grammar.start_below

    -- without holes
    pub plain_numbering : IsNumbering base (W g extensible pieces) part (names_in g extensible pieces c (length extensible))
    plain_numbering = record {
      once = record {
        terminal = spread_once g.terminals c.terminals.before c.terminals.size
            (total_of (terminal_sizes g extensible pieces) + length extensible) (let fits = covers.sizes.terminals_fit in
            omega (arith, fits));
        nonterminal = spread_once g.nonterminals c.nonterminals.before c.nonterminals.size
            (total_of (nonterminal_sizes g extensible pieces)) covers.sizes.nonterminals_fit;
        production = spread_once (length g.productions) c.productions.before c.productions.size
            (total_of (production_sizes g extensible pieces) + length extensible) (let fits = covers.sizes.productions_fit in
            omega (arith, fits));
      };
      ends = record {
        end_is = end_is;
        start_is = start_names (length extensible);
        top_is = top_is;
        top_right =
            after_start (V g extensible pieces);
      };
      nonterminals = record { within = covers.within; onto = covers.nonterminal_onto };
      productions = record {
        production = λ p a right rule. subst (λ z. Has part ((W g extensible pieces).production_owner z)) (sym (same p a right rule))
            (covers.rule p a right rule).has;
        left_is = λ p a right rule. ap (W g extensible pieces).left (same p a right rule) ∙ (covers.rule p a right rule).left;
        right_is = λ p a right rule. ap (W g extensible pieces).right (same p a right rule) ∙
            ((covers.rule p a right rule).right_is ∙ rights p a right rule);
        onto = λ q has. (let (p, a, right, rule, is) = covers.onto q has in (p, a, right, rule, is ∙ sym (same p a right rule)));
      };
    }
      where
        end_is : (names_in g extensible pieces c (length extensible)).terminal (end_of base) ≡ (W g extensible pieces).end_terminal
        end_is =
            let size = covers.sizes.terminals in
            let fits = covers.sizes.terminals_fit in
            spread_past g.terminals c.terminals.before c.terminals.size (total_of (terminal_sizes g extensible pieces) + length extensible)
            base.terminals (omega (arith, size)) ∙ (omega (arith, size, fits))

        top_is : (names_in g extensible pieces c (length extensible)).production (top_of base) ≡ (W g extensible pieces).top_production
        top_is =
            let size = covers.sizes.productions in
            let fits = covers.sizes.productions_fit in
            let len = with_holes_len g extensible pieces in
            spread_past (length g.productions) c.productions.before c.productions.size
            (total_of (production_sizes g extensible pieces) + length extensible) (length base.productions) (omega (arith, size)) ∙
            (omega (arith, size, fits, len))

        same : (p a : ℕ) (right : List Symbol) → IsProduction base p a right →
            (names_in g extensible pieces c (length extensible)).production p ≡ (names_in g extensible pieces c 0).production p
        same p a right rule =
            let less = slice_get_within base.productions p (a, right) rule in
            let size = covers.sizes.productions in
            spread_same (length g.productions) c.productions.before c.productions.size
            (total_of (production_sizes g extensible pieces) + length extensible) (total_of (production_sizes g extensible pieces) + 0) p
            (omega (arith, less, size))

        rights : (p a : ℕ) (right : List Symbol) → IsProduction base p a right →
            map (renamed (names_in g extensible pieces c 0)) right ≡ map (renamed (names_in g extensible pieces c (length extensible)))
            right
        rights p a right rule =
            agree (names_in g extensible pieces c 0) (names_in g extensible pieces c (length extensible)) base.terminals base.nonterminals
            (λ t less. (let size = covers.sizes.terminals in spread_same g.terminals c.terminals.before c.terminals.size
            (total_of (terminal_sizes g extensible pieces) + 0) (total_of (terminal_sizes g extensible pieces) + length extensible) t
            (omega (arith, less, size))))
            (λ b less. refl) right (production_below base p a right covers.sizes.is_grammar rule).right

    -- a terminal and a production past those of the grammar, with holes
    pub past_terminal : (j : ℕ) →
        (names_in g extensible pieces c 0).terminal (base.terminals + j) ≡ (united g extensible pieces).terminals + j
    past_terminal j =
        let size = covers.sizes.terminals in
        let fits = covers.sizes.terminals_fit in
        spread_past g.terminals c.terminals.before c.terminals.size (total_of (terminal_sizes g extensible pieces) + 0) (base.terminals + j)
        (omega (arith, size)) ∙ (omega (arith, size, fits))

    -- a production past those of the grammar
    past_production : (j : ℕ) → (names_in g extensible pieces c 0).production (length base.productions + j)
        ≡ length (united g extensible pieces).productions + j
    past_production j =
        let size = covers.sizes.productions in
        let fits = covers.sizes.productions_fit in
        let len = united_len g extensible pieces in
        spread_past (length g.productions) c.productions.before c.productions.size (total_of (production_sizes g extensible pieces) + 0)
        (length base.productions + j) (omega (arith, size)) ∙ (omega (arith, size, fits, len))

    -- with holes: a part that has the same besides, and the holes
    pub holes_numbering : (more : Part) → ((o : Owner) → Has part o → Has more o) → Has more hole →
        ((o : Owner) → Has more o → (o ≡ hole) ⊎ Has part o) →
        ((b : ℕ) → IsSymbolIn (W g extensible pieces) more (Nonterminal b) → IsSymbolIn (W g extensible pieces) part (Nonterminal b)) →
        IsNumbering (with_holes_of base extensible) (W g extensible pieces) more (names_in g extensible pieces c 0)
    holes_numbering more wider holes narrower same = record {
      once = record {
        terminal = spread_once g.terminals c.terminals.before c.terminals.size
            (total_of (terminal_sizes g extensible pieces) + 0) (let fits = covers.sizes.terminals_fit in omega (arith, fits));
        nonterminal = spread_once g.nonterminals c.nonterminals.before c.nonterminals.size
            (total_of (nonterminal_sizes g extensible pieces)) covers.sizes.nonterminals_fit;
        production = spread_once (length g.productions) c.productions.before c.productions.size
            (total_of (production_sizes g extensible pieces) + 0) (let fits = covers.sizes.productions_fit in omega (arith, fits));
      };
      ends = record {
        end_is = past_terminal (length extensible);
        start_is = start_names 0;
        top_is = top_is;
        top_right =
            after_start (V g extensible pieces);
      };
      nonterminals = record {
        within = λ a less. wider ((W g extensible pieces).symbol_owner (Nonterminal ((names_in g extensible pieces c 0).nonterminal a)))
            (covers.within a less);
        onto = λ b has. covers.nonterminal_onto b (same b has);
      };
      productions = record {
        production = λ p a right rule. (rule_of p a right rule).has;
        left_is = λ p a right rule. (rule_of p a right rule).left;
        right_is = λ p a right rule. (rule_of p a right rule).right_is;
        onto = onto;
      };
    }
      where
        top_is : (names_in g extensible pieces c 0).production (top_of (with_holes_of base extensible)) ≡
            (W g extensible pieces).top_production
        top_is =
            let all = length-append base.productions (hole_productions base.terminals extensible) in
            let len = holes_len base.terminals extensible in
            let here : length (with_holes_of base extensible).productions ≡ length base.productions + length extensible =
            omega (arith, all, len) in
            let mine = united_len g extensible pieces in
            let there = with_holes_len g extensible pieces in
            ap (names_in g extensible pieces c 0).production here ∙ (past_production (length extensible) ∙ (omega (arith, mine, there)))

        rule_of : (p a : ℕ) (right : List Symbol) → IsProduction (with_holes_of base extensible) p a right →
            Rule more (names_in g extensible pieces c 0) p a right
        rule_of p a right rule = go (with_holes_view base extensible p a right rule)
          where
            go : WithHoles base extensible p a right → Rule more (names_in g extensible pieces c 0) p a right
            go (without own) =
                let r = covers.rule p a right own in
                record {
                  has = wider ((W g extensible pieces).production_owner ((names_in g extensible pieces c 0).production p)) r.has;
                  left = r.left;
                  right_is = r.right_is;
                }
            go (of_hole j at is right_is) =
                let place : (names_in g extensible pieces c 0).production p ≡ length (united g extensible pieces).productions + j =
                ap (names_in g extensible pieces c 0).production is ∙ past_production j in
                let facts = hole_facts g extensible pieces j a ((names_in g extensible pieces c 0).production p) at place in
                let below = extensible_below g extensible pieces ok a (contains_at extensible a j at) in
                record {
                  has = subst (Has more) (sym facts.owner) holes;
                  left = facts.left ∙ sym
                      (spread_below g.nonterminals c.nonterminals.before c.nonterminals.size
                      (total_of (nonterminal_sizes g extensible pieces)) a below);
                  right_is = facts.right_is ∙
                      sym (ap (map (renamed (names_in g extensible pieces c 0))) right_is ∙ ap (λ z. Terminal z ∷ []) (past_terminal j));
                }

        onto : (q : ℕ) → IsProductionIn (W g extensible pieces) more q → (p a : ℕ) × (right : List Symbol) ×
            IsProduction (with_holes_of base extensible) p a right × (q ≡ (names_in g extensible pieces c 0).production p)
        onto q has = elim (narrower ((W g extensible pieces).production_owner q) has) [ inl is ↦ hole_onto is | inr mine ↦ own_onto mine ]
          where
            own_onto : Has part ((W g extensible pieces).production_owner q) → (p a : ℕ) × (right : List Symbol) ×
                IsProduction (with_holes_of base extensible) p a right × (q ≡ (names_in g extensible pieces c 0).production p)
            own_onto mine =
                let (p, a, right, rule, is) = covers.onto q mine in
                (p, a, right, append_keeps base.productions (hole_productions base.terminals extensible) p (a, right) rule, is)

            at_hole : (j a : ℕ) → slice_get extensible j ≡ Some a → q ≡ length (united g extensible pieces).productions + j →
                (p a : ℕ) × (right : List Symbol) × IsProduction (with_holes_of base extensible) p a right ×
                (q ≡ (names_in g extensible pieces c 0).production p)
            at_hole j a at is = (
              length base.productions + j,
              a,
              Terminal (base.terminals + j) ∷ [],
              append_after base.productions (hole_productions base.terminals extensible) j ∙
                  hole_production base.terminals extensible j a at,
              is ∙ sym (past_production j),
            )

            hole_onto : (W g extensible pieces).production_owner q ≡ hole → (p a : ℕ) × (right : List Symbol) ×
                IsProduction (with_holes_of base extensible) p a right × (q ≡ (names_in g extensible pieces c 0).production p)
            hole_onto owner = go (production_view g extensible pieces q)
              where
                go : ProductionOf g extensible pieces q → (p a : ℕ) × (right : List Symbol) ×
                    IsProduction (with_holes_of base extensible) p a right × (q ≡ (names_in g extensible pieces c 0).production p)
                go (fact.of_grammar a right rule) =
                    let f : host ≡ hole = sym (host_facts g extensible pieces q a right rule).owner ∙ owner in cc
                go (fact.of_piece k x i a right at rule is) =
                    let f : extension k ≡ hole = sym (extension_facts g extensible pieces k x i a right q at rule is).owner ∙ owner in cc
                go (fact.of_hole j a at is) = at_hole j a at is
                go (fact.of_rest j is) = let f : top ≡ hole = sym (top_facts g extensible pieces j q is).0 ∙ owner in cc
