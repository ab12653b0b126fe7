-- Which numbers of the certified grammars, and which names, are those of holes and of markers.
use Rattle.std.proofs.Common.{◌+◌, ◌-◌, ◌<◌, ◌≤◌, ◌∙◌, ◌∷◌, ◌≡◌, List, Some, ap, arith, inl, inr, length}
use Rattle.std.proofs.Common.{refl, slice_get, subst, sym, ℕ}
use Rattle.std.proofs.lemmas.Bool.{cases_lt}
use Rattle.std.proofs.lemmas.Option.{slice_get_within}
use Rattle.wb_base.specs.declared.symbol.Symbol.{Symbol}
use Rattle.wb_base.specs.declared.symbol.Symbol.TheVariants.{Nonterminal, Terminal}
use Rattle.wb_base.specs.Grammar.{GrammarView}
use Rattle.wb_lemmas.proofs.Members.{place_of}
use Rattle.wb_lemmas.proofs.Places.{at_within}
use Rattle.wb_compose_theory.proofs.MarkLemmas.{bare_not_on}
use Rattle.wb_compose_theory.specs.Blocks.{spread}
use Rattle.wb_compose_theory.specs.Homes.{Home, of}
use Rattle.wb_compose_theory.specs.Renamings.{Renaming, renamed}
use Rattle.wb_compose_theory.specs.Worlds.{Has, extension, hole, host, on, top, union}
use Rattle.wb_compose_theory_grammar.proofs.BridgeLemmas.{index_at, piece_ok}
use Rattle.wb_compose_theory_grammar.proofs.CoverLemmas.{piece_sizes, terminal_into}
use Rattle.wb_compose_theory_grammar.proofs.CutLemmas.{Sizes}
use Rattle.wb_compose_theory_grammar.proofs.FactLemmas as fact
use Rattle.wb_compose_theory_grammar.proofs.FactLemmas.{ProductionOf, W, extension_facts, hole_facts, host_facts, into_by, production_view}
use Rattle.wb_compose_theory_grammar.proofs.FactLemmas.{top_facts, united_len}
use Rattle.wb_compose_theory_grammar.proofs.PlaceLemmas.{lift_past, spread_below, spread_middle, spread_past}
use Rattle.wb_compose_theory_grammar.proofs.SymbolLemmas.{Moved, TerminalOf, end_facts, hole_terminal, host_terminal, moved, of_end}
use Rattle.wb_compose_theory_grammar.proofs.SymbolLemmas.{of_grammar}
use Rattle.wb_compose_theory_grammar.proofs.SymbolLemmas.{of_hole, of_piece, of_rest, piece_terminal, rest_facts, terminal_view}
use Rattle.wb_compose_theory_grammar.specs.Cuts.{Cut}
use Rattle.wb_compose_theory_grammar.specs.Numberings.{cut_of, names_in}
use Rattle.wb_compose_theory_grammar.specs.Pieces.{ArePieces, IsMarker, IsPiece, Piece}
use Rattle.wb_compose_theory_grammar.specs.Places.{count_before, total_of}
use Rattle.wb_compose_theory_grammar.specs.Unions.{added_productions, added_terminals}
use Rattle.wb_compose_theory_grammar.specs.UnitedWorlds.{index_of, production_sizes, terminal_sizes, united}
use Rattle.wb_compose_theory_kernels.specs.Parts.{IsHole, IsHoleProduction, cut_at, cut_in, hole_at}
use Rattle.wb_compose_theory_kernels.specs.Parts.{hole_production_at}
use Rattle.wb_compose_theory_kernels.proofs.NameLemmas.{fits, names_at}

module _ (g : GrammarView) (extensible : List ℕ) (pieces : List Piece) (ok : ArePieces g extensible pieces) where
  abbrev home_name : Home → Renaming
  home_name home = names_at g extensible pieces ok home

  -- the name of what comes after a certified grammar's own
  pub hole_name : (home : Home) (j t : ℕ) → t ≡ (g.terminals + (cut_at g extensible pieces home).terminals.size) + j →
      (home_name home).terminal t ≡ (united g extensible pieces).terminals + j
  hole_name home j t is =
      let fit = (fits g extensible pieces ok home).terminals in
      spread_past g.terminals (cut_at g extensible pieces home).terminals.before (cut_at g extensible pieces home).terminals.size
      (total_of (terminal_sizes g extensible pieces) + 0) t (omega (arith, is)) ∙ (omega (arith, is, fit))

  pub hole_production_name : (home : Home) (j p : ℕ) → p ≡ (length g.productions + (cut_at g extensible pieces home).productions.size) + j →
      (home_name home).production p ≡ length (united g extensible pieces).productions + j
  hole_production_name home j p is =
      let fit = (fits g extensible pieces ok home).productions in
      let len = united_len g extensible pieces in
      spread_past (length g.productions) (cut_at g extensible pieces home).productions.before
      (cut_at g extensible pieces home).productions.size
      (total_of (production_sizes g extensible pieces) + 0) p (omega (arith, is)) ∙ (omega (arith, is, fit, len))

  -- and only that has such a name
  past_number : (own before size total narrow t j : ℕ) → before + size ≤ total → narrow ≡ total →
      spread own before size narrow t ≡ (own + total) + j → t ≡ (own + size) + j
  past_number own before size total narrow t j fit narrow_is e = elim (cases_lt t own) [
    | inl below ↦ (let s = spread_below own before size narrow t below in absurd (omega (arith, e, s, below)))
    | inr far ↦ elim (cases_lt t (own + size)) [
      | inl less ↦ (let s = spread_middle own before size narrow t far less in absurd (omega (arith, e, s, less, fit)))
      | inr over ↦ (let s = spread_past own before size narrow t over in omega (arith, e, s, over, fit, narrow_is))
    ]
  ]

  -- a terminal that the world's holes own is a hole
  pub hole_number : (home : Home) (t : ℕ) → (W g extensible pieces).symbol_owner (Terminal ((home_name home).terminal t)) ≡ hole →
      IsHole g extensible pieces home (Terminal t)
  hole_number home t owner = go (terminal_view g extensible pieces ((home_name home).terminal t))
    where
      go : TerminalOf g extensible pieces ((home_name home).terminal t) → IsHole g extensible pieces home (Terminal t)
      go (of_grammar below) =
          let f : host ≡ hole = sym (host_terminal g extensible pieces ((home_name home).terminal t) below).owner ∙ owner in cc
      go (of_piece k x i at less is) =
          let f : extension k ≡ hole = sym (piece_terminal g extensible pieces k x i ((home_name home).terminal t) at less is).owner ∙ owner
          in cc
      go (of_hole j a at is) =
          let less = slice_get_within extensible j a at in
          let t_is = past_number g.terminals (cut_at g extensible pieces home).terminals.before
          (cut_at g extensible pieces home).terminals.size
          (total_of (terminal_sizes g extensible pieces)) (total_of (terminal_sizes g extensible pieces) + 0) t j
          (fits g extensible pieces ok home).terminals
          (omega arith) is in
          (omega (arith, t_is), omega (arith, t_is, less))
      go (of_end is) =
          let f : host ≡ hole = sym (end_facts g extensible pieces ((home_name home).terminal t) is).owner ∙ owner in cc
      go (of_rest j is) =
          let f : top ≡ hole = sym (rest_facts g extensible pieces j ((home_name home).terminal t) is).owner ∙ owner in cc

  -- and each hole is owned so
  pub hole_owned : (home : Home) (t : ℕ) → IsHole g extensible pieces home (Terminal t) →
      (W g extensible pieces).symbol_owner (Terminal ((home_name home).terminal t)) ≡ hole
  hole_owned home t (far, less) =
      let j : ℕ = t - (g.terminals + (cut_at g extensible pieces home).terminals.size) in
      let t_is : t ≡ (g.terminals + (cut_at g extensible pieces home).terminals.size) + j = omega (arith, far) in
      let (a, at) = at_within extensible j (omega (arith, far, less)) in
      (hole_terminal g extensible pieces j a ((home_name home).terminal t) at (hole_name home j t t_is)).owner

  -- a production that the world's holes own is that of a hole
  pub hole_production_number : (home : Home) (p : ℕ) → (W g extensible pieces).production_owner ((home_name home).production p) ≡ hole →
      IsHoleProduction g extensible pieces home p
  hole_production_number home p owner = go (production_view g extensible pieces ((home_name home).production p))
    where
      go : ProductionOf g extensible pieces ((home_name home).production p) → IsHoleProduction g extensible pieces home p
      go (fact.of_grammar a right rule) =
          let f : host ≡ hole = sym (host_facts g extensible pieces ((home_name home).production p) a right rule).owner ∙ owner in cc
      go (fact.of_piece k x i a right at rule is) =
          let f : extension k ≡ hole =
          sym (extension_facts g extensible pieces k x i a right ((home_name home).production p) at rule is).owner ∙ owner in cc
      go (fact.of_hole j a at is) =
          let less = slice_get_within extensible j a at in
          let len = united_len g extensible pieces in
          let p_is = past_number (length g.productions) (cut_at g extensible pieces home).productions.before
          (cut_at g extensible pieces home).productions.size
          (total_of (production_sizes g extensible pieces)) (total_of (production_sizes g extensible pieces) + 0) p j
          (fits g extensible pieces ok home).productions (omega arith) (omega (arith, is, len)) in
          (omega (arith, p_is), omega (arith, p_is, less))
      go (fact.of_rest j is) =
          let f : top ≡ hole = sym ((top_facts g extensible pieces j ((home_name home).production p) is).0) ∙ owner in cc

  -- and each is owned so
  pub hole_production_owned : (home : Home) (p : ℕ) → IsHoleProduction g extensible pieces home p →
      (W g extensible pieces).production_owner ((home_name home).production p) ≡ hole
  hole_production_owned home p (far, less) =
      let j : ℕ = p - (length g.productions + (cut_at g extensible pieces home).productions.size) in
      let p_is : p ≡ (length g.productions + (cut_at g extensible pieces home).productions.size) + j = omega (arith, far) in
      let (a, at) = at_within extensible j (omega (arith, far, less)) in
      (hole_facts g extensible pieces j a ((home_name home).production p) at (hole_production_name home j p p_is)).owner

  -- so is a symbol that is a hole
  pub symbol_hole : (home : Home) (x : Symbol) → IsHole g extensible pieces home x →
      (W g extensible pieces).symbol_owner (renamed (home_name home) x) ≡ hole
  symbol_hole home (Terminal t) is = hole_owned home t is
  symbol_hole home (Nonterminal a) is = absurd is

  -- the stretch of an extension that is there
  pub cut_is : (e : ℕ) (x : Piece) → slice_get pieces e ≡ Some x → cut_at g extensible pieces (of e) ≡ cut_of g extensible pieces e x
  cut_is e x at = ap (cut_in g extensible pieces e) at

  -- what the world says of an extension's marker
  pub record MarkerNames (e : ℕ) (x : Piece) (m a : ℕ) : Type 0 where
    pub place : ℕ
    pub at : slice_get extensible place ≡ Some a
    pub mark : (W g extensible pieces).mark ((home_name (of e)).terminal m) ≡ on a
    pub owner : (W g extensible pieces).symbol_owner (Terminal ((home_name (of e)).terminal m)) ≡ extension e
    pub production : (W g extensible pieces).production_of ((home_name (of e)).terminal m) ≡ (home_name (of e)).production (x.bridge m)
    pub no_hole : ¬ IsHole g extensible pieces (of e) (Terminal m)
    pub no_hole_production : ¬ IsHoleProduction g extensible pieces (of e) (x.bridge m)

  pub marker_names : (e : ℕ) (x : Piece) (m a : ℕ) → slice_get pieces e ≡ Some x → x.mark m ≡ on a → MarkerNames e x m a
  marker_names e x m a at mark = record {
    place = contained.0;
    at = contained.1;
    mark = ap (W g extensible pieces).mark t_is ∙ (kept.mark ∙ mark);
    owner = ap (λ z. (W g extensible pieces).symbol_owner (Terminal z)) t_is ∙ kept.own marker.own;
    production = ap (W g extensible pieces).production_of t_is ∙ (kept.production marker.own ∙
        (lift_past (length g.productions) (count_before (production_sizes g extensible pieces) e) (x.bridge m) marker.own_bridge ∙
        sym (ap (λ (r : Renaming). r.production (x.bridge m)) names_is ∙
        spread_middle (length g.productions) (count_before (production_sizes g extensible pieces) e) (added_productions g x.grammar)
        (total_of (production_sizes g extensible pieces) + 0) (x.bridge m) marker.own_bridge below)));
    no_hole = λ k. (let far = k.0 in let less = marker.within in let size = sizes.terminals in
        let same = ap (λ (c : Cut). c.terminals.size) (cut_is e x at) in omega (arith, far, less, size, same));
    no_hole_production = λ k. (let far = k.0 in let less = below in
        let same = ap (λ (c : Cut). c.productions.size) (cut_is e x at) in omega (arith, far, less, same));
  }
    where
      piece : IsPiece g extensible x
      piece = piece_ok g extensible pieces ok e x at

      marker : IsMarker g extensible x m a
      marker = piece.markers m a mark

      contained : (j : ℕ) × (slice_get extensible j ≡ Some a)
      contained = place_of extensible a marker.extensible_left

      kept : Moved g extensible pieces e x m
      kept = moved g extensible pieces e x m piece at marker.within

      sizes : Sizes g extensible pieces x.grammar (cut_of g extensible pieces e x)
      sizes = piece_sizes g extensible pieces ok e x at

      names_is : home_name (of e) ≡ names_in g extensible pieces (cut_of g extensible pieces e x) 0
      names_is = ap (λ c. names_in g extensible pieces c 0) (cut_is e x at)

      t_is : (home_name (of e)).terminal m ≡ (into_by g extensible pieces e).terminal m
      t_is = ap (λ (r : Renaming). r.terminal m) names_is ∙ sym (terminal_into g extensible pieces ok e x at m marker.within)

      below : x.bridge m < length g.productions + added_productions g x.grammar
      below =
          let (rest, rule) = marker.bridge_is in
          let less = slice_get_within x.grammar.productions (x.bridge m) (a, Terminal m ∷ rest) rule in
          let len = sizes.productions in
          omega (arith, less, len)

  -- the union's marks are the extensions' markers
  pub record IsMarkerName (t a : ℕ) : Type 0 where
    pub extension_number : ℕ
    pub piece : Piece
    pub marker : ℕ
    pub at : slice_get pieces extension_number ≡ Some piece
    pub mark : piece.mark marker ≡ on a
    pub is : t ≡ (home_name (of extension_number)).terminal marker

  pub marker_name : (t a : ℕ) → (W g extensible pieces).mark t ≡ on a →
      Has (union (length pieces)) ((W g extensible pieces).symbol_owner (Terminal t)) → IsMarkerName t a
  marker_name t a mark has = go (terminal_view g extensible pieces t)
    where
      go : TerminalOf g extensible pieces t → IsMarkerName t a
      go (of_grammar below) = absurd (bare_not_on a (sym (host_terminal g extensible pieces t below).mark ∙ mark))
      go (of_piece k x i at less is) = record {
        extension_number = k;
        piece = x;
        marker = g.terminals + i;
        at = at;
        mark = sym (piece_terminal g extensible pieces k x i t at less is).mark ∙ mark;
        is = is ∙ ((omega arith) ∙ sym (ap (λ (c : Cut). (names_in g extensible pieces c 0).terminal (g.terminals + i)) (cut_is k x at) ∙
            spread_middle g.terminals (count_before (terminal_sizes g extensible pieces) k) (added_terminals g x.grammar)
            (total_of (terminal_sizes g extensible pieces) + 0) (g.terminals + i) (omega arith) (omega (arith, less))));
      }
      go (of_hole j b at is) =
          absurd (subst (Has (union (length pieces))) (hole_terminal g extensible pieces j b t at is).owner has)
      go (of_end is) = absurd (bare_not_on a (sym (end_facts g extensible pieces t is).mark ∙ mark))
      go (of_rest j is) = absurd (bare_not_on a (sym (rest_facts g extensible pieces j t is).mark ∙ mark))

  -- the hole of an extensible nonterminal, and its production
  pub hole_at_name : (home : Home) (a : ℕ) →
      (home_name home).terminal (hole_at g extensible pieces home a) ≡ (W g extensible pieces).hole_on a
  hole_at_name home a = hole_name home (index_of extensible a) (hole_at g extensible pieces home a) refl

  pub hole_production_at_name : (home : Home) (j a : ℕ) → slice_get extensible j ≡ Some a →
      (home_name home).production (hole_production_at g extensible pieces home a)
      ≡ (W g extensible pieces).production_of ((W g extensible pieces).hole_on a)
  hole_production_at_name home j a at =
      hole_production_name home (index_of extensible a) (hole_production_at g extensible pieces home a) refl ∙
      sym (hole_terminal g extensible pieces (index_of extensible a) a ((W g extensible pieces).hole_on a) (index_at extensible a j at)
      refl).production

  -- the hole is a hole
  pub hole_at_is : (home : Home) (j a : ℕ) → slice_get extensible j ≡ Some a →
      IsHole g extensible pieces home (Terminal (hole_at g extensible pieces home a))
  hole_at_is home j a at =
      let less = slice_get_within extensible (index_of extensible a) a (index_at extensible a j at) in
      (omega arith, omega (arith, less))
