-- In a united world names are used by those who may, and marks are where they may be.
use Rattle.std.proofs.Common.{◌≡◌, ◌≢◌, ◌≤◌, ◌+◌, ◌∙◌, ◌∷◌, [], ℕ, zero, suc, List, Some, length, map, slice_get, refl, sym, ap, subst}
use Rattle.std.proofs.Common.{inr, arith}
use Rattle.std.specs.Prelude.{All}
use Rattle.std.proofs.lemmas.List.Elements.{All-tail}
use Rattle.wb_base.specs.declared.symbol.Symbol.{Symbol}
use Rattle.wb_base.specs.declared.symbol.Symbol.TheVariants.{Terminal, Nonterminal}
use Rattle.wb_base.specs.Grammar.{GrammarView, IsSymbolBelow}
use Rattle.wb_grammar_theory.specs.Productions.{IsProduction, right_in, top_of}
use Rattle.wb_grammar_theory.proofs.DotLemmas.{after_start}
use Rattle.wb_grammar_theory.proofs.ProductionLemmas.{production_below}
use Rattle.wb_compose_theory.specs.Marks.{Each, IsBare, Uses, Shape, unmarked, marked, IsMarked}
use Rattle.wb_compose_theory.specs.Renamings.{renamed}
use Rattle.wb_compose_theory.specs.Worlds.{Owner, host, hole, extension, top, on}
use Rattle.wb_compose_theory_grammar.specs.Pieces as own
use Rattle.wb_compose_theory_grammar.specs.Pieces.{Piece, ArePieces, IsOwnProduction}
use Rattle.wb_compose_theory_grammar.specs.Places.{count_before}
use Rattle.wb_compose_theory_grammar.specs.UnitedWorlds.{nonterminal_sizes, production_sizes, united}
use Rattle.wb_compose_theory_grammar.proofs.FactLemmas as fact
use Rattle.wb_compose_theory_grammar.proofs.FactLemmas.{W, V, Facts, ProductionOf, production_view, host_facts, extension_facts, hole_facts}
use Rattle.wb_compose_theory_grammar.proofs.FactLemmas.{top_facts}
use Rattle.wb_compose_theory_grammar.proofs.FactLemmas.{into_by, piece_at}
use Rattle.wb_compose_theory_grammar.proofs.PlaceLemmas.{Located, after_all, in_extension, in_host, lift_past, located}
use Rattle.wb_compose_theory_grammar.proofs.SymbolLemmas.{hole_terminal, end_facts, host_nonterminal, moved, moved_own_nonterminal}
use Rattle.wb_compose_theory_grammar.proofs.SymbolLemmas.{rest_nonterminal}
use Rattle.wb_compose_theory_grammar.proofs.SymbolLemmas.{piece_nonterminal}
use Rattle.wb_compose_theory_grammar.specs.Unions.{added_nonterminals}
use Rattle.wb_compose_theory_grammar.proofs.BridgeLemmas.{bridge_of, extensible_below, hole_at, hole_right_at, host_bare, host_uses}
use Rattle.wb_compose_theory_grammar.proofs.BridgeLemmas.{no_mark}
use Rattle.wb_compose_theory_grammar.proofs.BridgeLemmas.{piece_bare, piece_ok, piece_uses}

module _ (g : GrammarView) (extensible : List ℕ) (pieces : List Piece) (ok : ArePieces g extensible pieces) where
  -- right sides: at most a mark at the beginning
  shape_at : (p : ℕ) → Shape (W g extensible pieces) p
  shape_at p = go (production_view g extensible pieces p)
    where
      own_shape : (k : ℕ) (x : Piece) (i a : ℕ) (right : List Symbol) → slice_get pieces k ≡ Some x →
          IsProduction x.grammar (length g.productions + i) a right →
          p ≡ length g.productions + (count_before (production_sizes g extensible pieces) k + i) →
          Facts g extensible pieces p (extension k) ((into_by g extensible pieces k).nonterminal a)
          (map (renamed (into_by g extensible pieces k)) right) →
          IsOwnProduction g x (length g.productions + i) a right → Shape (W g extensible pieces) p
      own_shape k x i a right at rule is facts (own.unmarked le bares) = unmarked (subst (Each (IsBare (W g extensible pieces)))
          (sym facts.right_is) (piece_bare g extensible pieces ok k x at right
          (production_below x.grammar (length g.productions + i) a right (piece_ok g extensible pieces ok k x at).is_grammar rule).right
          bares))
      own_shape k x i a right at rule is facts (own.bridge m b rest mark p_is right_is bares) =
          let marker = (piece_ok g extensible pieces ok k x at).markers m b mark in
          let far = marker.own_bridge in
          let kept = moved g extensible pieces k x m (piece_ok g extensible pieces ok k x at) at marker.within in
          let there : p ≡ (W g extensible pieces).production_of ((into_by g extensible pieces k).terminal m) =
          (omega (arith, is, p_is)) ∙ sym (kept.production marker.own ∙
          lift_past (length g.productions) (count_before (production_sizes g extensible pieces) k) (x.bridge m) far) in
          let below = (production_below x.grammar (length g.productions + i) a right (piece_ok g extensible pieces ok k x at).is_grammar
          rule).right in
          let rest_below = All-tail (IsSymbolBelow x.grammar.terminals x.grammar.nonterminals) (Terminal m) rest
          (subst (All (IsSymbolBelow x.grammar.terminals x.grammar.nonterminals)) right_is below) in
          marked ((into_by g extensible pieces k).terminal m) b (map (renamed (into_by g extensible pieces k)) rest)
          (kept.mark ∙ mark) there
          (facts.right_is ∙ ap (map (renamed (into_by g extensible pieces k))) right_is)
          (piece_bare g extensible pieces ok k x at rest rest_below bares)

      rest_shape : (j : ℕ) → Each (IsBare (W g extensible pieces)) (right_in [] g.start j)
      rest_shape zero = (tt, tt)
      rest_shape (suc j) = tt

      go : ProductionOf g extensible pieces p → Shape (W g extensible pieces) p
      go (fact.of_grammar a right rule) = unmarked (subst (Each (IsBare (W g extensible pieces)))
          (sym (host_facts g extensible pieces p a right rule).right_is)
          (host_bare g extensible pieces ok right (production_below g p a right ok.is_grammar rule).right))
      go (fact.of_piece k x i a right at rule is) =
          let le : length g.productions ≤ length g.productions + i = omega arith in
          own_shape k x i a right at rule is (extension_facts g extensible pieces k x i a right p at rule is)
          ((piece_ok g extensible pieces ok k x at).own_productions (length g.productions + i) a right le rule)
      go (fact.of_hole j a at is) =
          let terminal = hole_terminal g extensible pieces j a ((united g extensible pieces).terminals + j) at refl in
          marked ((united g extensible pieces).terminals + j) a [] terminal.mark (is ∙ sym terminal.production)
          (hole_facts g extensible pieces j a p at is).right_is tt
      go (fact.of_rest j is) = unmarked (subst (Each (IsBare (W g extensible pieces)))
          (sym ((top_facts g extensible pieces j p is).1)) (rest_shape j))

  -- productions use the host's symbols and their owner's
  uses_at : (p : ℕ) → (W g extensible pieces).production_owner p ≢ top →
      Each (λ y. Uses ((W g extensible pieces).production_owner p) ((W g extensible pieces).symbol_owner y))
      ((W g extensible pieces).right p)
  uses_at p ne = go (production_view g extensible pieces p)
    where
      of_facts : (o : Owner) (a : ℕ) (right : List Symbol) → Facts g extensible pieces p o a right →
          Each (λ y. Uses o ((W g extensible pieces).symbol_owner y)) right →
          Each (λ y. Uses ((W g extensible pieces).production_owner p) ((W g extensible pieces).symbol_owner y))
          ((W g extensible pieces).right p)
      of_facts o a right facts each =
          subst (λ z. Each (λ y. Uses z ((W g extensible pieces).symbol_owner y)) ((W g extensible pieces).right p)) (sym facts.owner)
          (subst (Each (λ y. Uses o ((W g extensible pieces).symbol_owner y))) (sym facts.right_is) each)

      go : ProductionOf g extensible pieces p →
          Each (λ y. Uses ((W g extensible pieces).production_owner p) ((W g extensible pieces).symbol_owner y))
          ((W g extensible pieces).right p)
      go (fact.of_grammar a right rule) = of_facts host a right (host_facts g extensible pieces p a right rule)
          (host_uses g extensible pieces ok host right (production_below g p a right ok.is_grammar rule).right)
      go (fact.of_piece k x i a right at rule is) = of_facts (extension k) ((into_by g extensible pieces k).nonterminal a)
          (map (renamed (into_by g extensible pieces k)) right) (extension_facts g extensible pieces k x i a right p at rule is)
          (piece_uses g extensible pieces ok k x at right
          (production_below x.grammar (length g.productions + i) a right (piece_ok g extensible pieces ok k x at).is_grammar
          rule).right)
      go (fact.of_hole j a at is) = of_facts hole a (Terminal ((united g extensible pieces).terminals + j) ∷ [])
          (hole_facts g extensible pieces j a p at is)
          (inr (hole_terminal g extensible pieces j a ((united g extensible pieces).terminals + j) at refl).owner, tt)
      go (fact.of_rest j is) = absurd (ne (top_facts g extensible pieces j p is).0)

  -- a production without a mark is of the owner of its left side
  owner_at_left : (p : ℕ) → Each (IsBare (W g extensible pieces)) ((W g extensible pieces).right p) →
      (W g extensible pieces).production_owner p ≢ top →
      (W g extensible pieces).production_owner p ≡ (W g extensible pieces).symbol_owner (Nonterminal ((W g extensible pieces).left p))
  owner_at_left p bares ne = go (production_view g extensible pieces p)
    where
      not_marked : (m a : ℕ) (rest : List Symbol) → (W g extensible pieces).right p ≡ Terminal m ∷ rest →
          (W g extensible pieces).mark m ≡ on a → ⊥
      not_marked m a rest right_is mark =
          no_mark a (sym ((subst (Each (IsBare (W g extensible pieces))) right_is bares).0) ∙ mark)

      of_own : (k : ℕ) (x : Piece) (i a : ℕ) (right : List Symbol) → slice_get pieces k ≡ Some x →
          IsProduction x.grammar (length g.productions + i) a right →
          Facts g extensible pieces p (extension k) ((into_by g extensible pieces k).nonterminal a)
          (map (renamed (into_by g extensible pieces k)) right) → IsOwnProduction g x (length g.productions + i) a right →
          (W g extensible pieces).production_owner p ≡ (W g extensible pieces).symbol_owner (Nonterminal ((W g extensible pieces).left p))
      of_own k x i a right at rule facts (own.unmarked le _) = facts.owner ∙ sym (
          ap (λ z. (W g extensible pieces).symbol_owner (Nonterminal z)) facts.left ∙
          moved_own_nonterminal g extensible pieces k x a at
          (production_below x.grammar (length g.productions + i) a right (piece_ok g extensible pieces ok k x at).is_grammar rule).left le
          )
      of_own k x i a right at rule facts (own.bridge m b rest mark p_is right_is _) =
          let marker = (piece_ok g extensible pieces ok k x at).markers m b mark in
          let kept = moved g extensible pieces k x m (piece_ok g extensible pieces ok k x at) at marker.within in
          absurd (not_marked ((into_by g extensible pieces k).terminal m) b (map (renamed (into_by g extensible pieces k)) rest)
          (facts.right_is ∙ ap (map (renamed (into_by g extensible pieces k))) right_is) (kept.mark ∙ mark))

      go : ProductionOf g extensible pieces p →
          (W g extensible pieces).production_owner p ≡ (W g extensible pieces).symbol_owner (Nonterminal ((W g extensible pieces).left p))
      go (fact.of_grammar a right rule) =
          let facts = host_facts g extensible pieces p a right rule in
          facts.owner ∙ sym (ap (λ z. (W g extensible pieces).symbol_owner (Nonterminal z)) facts.left ∙
          host_nonterminal g extensible pieces a (production_below g p a right ok.is_grammar rule).left)
      go (fact.of_piece k x i a right at rule is) =
          let le : length g.productions ≤ length g.productions + i = omega arith in
          of_own k x i a right at rule (extension_facts g extensible pieces k x i a right p at rule is)
          ((piece_ok g extensible pieces ok k x at).own_productions (length g.productions + i) a right le rule)
      go (fact.of_hole j a at is) = absurd (not_marked ((united g extensible pieces).terminals + j) a []
          (hole_facts g extensible pieces j a p at is).right_is
          (hole_terminal g extensible pieces j a ((united g extensible pieces).terminals + j) at refl).mark)
      go (fact.of_rest j is) = absurd (ne (top_facts g extensible pieces j p is).0)

  -- no nonterminal is a hole's
  no_hole_at : (a : ℕ) → (W g extensible pieces).symbol_owner (Nonterminal a) ≢ hole
  no_hole_at a e = go (located g.nonterminals (nonterminal_sizes g extensible pieces) a)
    where
      go : Located g.nonterminals (nonterminal_sizes g extensible pieces) a → ⊥
      go (in_host below) = let f : host ≡ hole = sym (host_nonterminal g extensible pieces a below) ∙ e in cc
      go (in_extension k size i at within is) =
          let (x, x_at, size_is) = piece_at g extensible pieces (added_nonterminals g) k size at in
          let f : extension k ≡ hole =
          sym (piece_nonterminal g extensible pieces k x i a x_at (omega (arith, within, size_is)) is) ∙ e in cc
      go (after_all j is) = let f : top ≡ hole = sym (rest_nonterminal g extensible pieces j a is) ∙ e in cc

  -- the world is as it should be
  pub united_marked : IsMarked (W g extensible pieces)
  united_marked = record {
    start = record {
      top_right = after_start (V g extensible pieces);
      top_owner = (let is : top_of (V g extensible pieces) ≡ length (V g extensible pieces).productions + 0 = omega arith in
          (top_facts g extensible pieces 0 (top_of (V g extensible pieces)) is).0);
      start_host = host_nonterminal g extensible pieces g.start ok.is_grammar.start_below;
      end_host = (end_facts g extensible pieces (W g extensible pieces).end_terminal refl).owner;
      end_bare = (end_facts g extensible pieces (W g extensible pieces).end_terminal refl).mark;
    };
    named = record { uses = uses_at; unmarked_owner = owner_at_left; no_hole = no_hole_at };
    bridges = record {
      shape = shape_at;
      bridge_left = λ m a mark. (bridge_of g extensible pieces ok m a mark).facts.left;
      bridge_host = λ m a mark. host_nonterminal g extensible pieces a
          (extensible_below g extensible pieces ok a (bridge_of g extensible pieces ok m a mark).has);
      bridge_right = λ m a mark. (let b = bridge_of g extensible pieces ok m a mark in (b.rest, b.facts.right_is));
      bridge_owner = λ m a mark. (let b = bridge_of g extensible pieces ok m a mark in b.facts.owner ∙ sym b.owner);
    };
    holes = record {
      hole_only = λ m a mark is. (let b = bridge_of g extensible pieces ok m a mark in b.is_hole (sym b.owner ∙ is));
      hole_mark = λ m a mark. (hole_at g extensible pieces ok a (bridge_of g extensible pieces ok m a mark).has).mark;
      hole_owner = λ m a mark. (hole_at g extensible pieces ok a (bridge_of g extensible pieces ok m a mark).has).owner;
      hole_right = λ m a mark. hole_right_at g extensible pieces ok a (bridge_of g extensible pieces ok m a mark).has;
    };
  }
