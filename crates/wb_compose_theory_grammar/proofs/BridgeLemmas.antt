-- The symbols of productions in a united world, and the bridge that each mark begins.
use Rattle.std.proofs.Common.{◌≡◌, ◌<◌, ◌≤◌, ◌+◌, ◌-◌, ◌∙◌, ◌∷◌, [], ℕ, zero, suc, Bool, true, false, cond, eqb, List, Some, Contains}
use Rattle.std.proofs.Common.{length, map, slice_get, refl, sym, ap, subst, inl, arith}
use Rattle.std.specs.Prelude.{All}
use Rattle.std.proofs.lemmas.Bool.{eqb-true, eqb-false}
use Rattle.std.proofs.lemmas.List.Elements.{All-head, All-tail}
use Rattle.std.proofs.lemmas.Option.{same_Some}
use Rattle.wb_base.specs.declared.symbol.Symbol.{Symbol}
use Rattle.wb_base.specs.declared.symbol.Symbol.TheVariants.{Terminal, Nonterminal}
use Rattle.wb_base.specs.Grammar.{GrammarView, IsSymbolBelow}
use Rattle.wb_grammar_theory.specs.Productions.{IsProduction}
use Rattle.wb_lemmas.proofs.Elements.{all_at, all_contained}
use Rattle.wb_lemmas.proofs.Members.{contains_at, place_of}
use Rattle.wb_lemmas.proofs.Places.{nothing_at}
use Rattle.wb_compose_theory.specs.Marks.{Each, IsBare, Uses}
use Rattle.wb_compose_theory.specs.Renamings.{renamed}
use Rattle.wb_compose_theory.specs.Worlds.{Owner, hole, extension, bare, on}
use Rattle.wb_compose_theory_grammar.specs.Pieces.{Piece, IsPiece, ArePieces, IsUnmarked, IsMarker}
use Rattle.wb_compose_theory_grammar.specs.Places.{count_before}
use Rattle.wb_compose_theory_grammar.specs.UnitedWorlds.{index_of, nonterminal_sizes, production_sizes, terminal_sizes, united}
use Rattle.wb_compose_theory_grammar.proofs.FactLemmas.{W, Facts, extension_facts, hole_facts, into_by}
use Rattle.wb_compose_theory_grammar.proofs.PlaceLemmas.{lift_below, lift_past}
use Rattle.wb_compose_theory_grammar.proofs.SymbolLemmas as symbol
use Rattle.wb_compose_theory_grammar.proofs.SymbolLemmas.{TerminalFacts, TerminalOf, terminal_view, host_terminal, piece_terminal}
use Rattle.wb_compose_theory_grammar.proofs.SymbolLemmas.{hole_terminal}
use Rattle.wb_compose_theory_grammar.proofs.SymbolLemmas.{end_facts, rest_facts, host_nonterminal, moved, moved_nonterminal}

-- an extensible nonterminal is at its place
pub index_at : (xs : List ℕ) (a j : ℕ) → slice_get xs j ≡ Some a → slice_get xs (index_of xs a) ≡ Some a
index_at [] a j at = absurd (nothing_at a j at)
index_at (x ∷ xs) a j at = go (index_at xs a) (eqb x a) refl j at
  where
    go : ((j : ℕ) → slice_get xs j ≡ Some a → slice_get xs (index_of xs a) ≡ Some a) → (b : Bool) → eqb x a ≡ b → (j : ℕ) →
        slice_get (x ∷ xs) j ≡ Some a → slice_get (x ∷ xs) (cond b 0 (suc (index_of xs a))) ≡ Some a
    go later true same j at = ap Some (eqb-true x a same)
    go later false differ zero at = absurd (eqb-false x a differ (same_Some x a at))
    go later false differ (suc j) at = later j at

-- bare isn't a mark
pub no_mark : (a : ℕ) → bare ≡ on a → ⊥
no_mark a e = cc

module _ (g : GrammarView) (extensible : List ℕ) (pieces : List Piece) (ok : ArePieces g extensible pieces) where
  -- an extension in the list is one of the host
  pub piece_ok : (k : ℕ) (x : Piece) → slice_get pieces k ≡ Some x → IsPiece g extensible x
  piece_ok k x at = all_at (IsPiece g extensible) pieces k x ok.each at

  -- symbols of the host are used by all, and are bare
  pub host_uses : (o : Owner) (xs : List Symbol) → All (IsSymbolBelow g.terminals g.nonterminals) xs →
      Each (λ y. Uses o ((W g extensible pieces).symbol_owner y)) xs
  host_uses o [] all = tt
  host_uses o (Terminal t ∷ xs) all = (
    inl (host_terminal g extensible pieces t (All-head (IsSymbolBelow g.terminals g.nonterminals) (Terminal t) xs all)).owner,
    host_uses o xs (All-tail (IsSymbolBelow g.terminals g.nonterminals) (Terminal t) xs all),
  )
  host_uses o (Nonterminal a ∷ xs) all = (
    inl (host_nonterminal g extensible pieces a (All-head (IsSymbolBelow g.terminals g.nonterminals) (Nonterminal a) xs all)),
    host_uses o xs (All-tail (IsSymbolBelow g.terminals g.nonterminals) (Nonterminal a) xs all),
  )

  -- and are no marks
  pub host_bare : (xs : List Symbol) → All (IsSymbolBelow g.terminals g.nonterminals) xs → Each (IsBare (W g extensible pieces)) xs
  host_bare [] all = tt
  host_bare (Terminal t ∷ xs) all = (
    (host_terminal g extensible pieces t (All-head (IsSymbolBelow g.terminals g.nonterminals) (Terminal t) xs all)).mark,
    host_bare xs (All-tail (IsSymbolBelow g.terminals g.nonterminals) (Terminal t) xs all),
  )
  host_bare (Nonterminal a ∷ xs) all =
      (tt, host_bare xs (All-tail (IsSymbolBelow g.terminals g.nonterminals) (Nonterminal a) xs all))

  -- symbols of an extension's grammar
  pub piece_uses : (k : ℕ) (x : Piece) → slice_get pieces k ≡ Some x → (xs : List Symbol) →
      All (IsSymbolBelow x.grammar.terminals x.grammar.nonterminals) xs →
      Each (λ y. Uses (extension k) ((W g extensible pieces).symbol_owner y)) (map (renamed (into_by g extensible pieces k)) xs)
  piece_uses k x at [] all = tt
  piece_uses k x at (Terminal t ∷ xs) all = (
    (moved g extensible pieces k x t (piece_ok k x at) at
        (All-head (IsSymbolBelow x.grammar.terminals x.grammar.nonterminals) (Terminal t) xs all)).owner,
    piece_uses k x at xs (All-tail (IsSymbolBelow x.grammar.terminals x.grammar.nonterminals) (Terminal t) xs all),
  )
  piece_uses k x at (Nonterminal a ∷ xs) all = (
    moved_nonterminal g extensible pieces k x a at
        (All-head (IsSymbolBelow x.grammar.terminals x.grammar.nonterminals) (Nonterminal a) xs all),
    piece_uses k x at xs (All-tail (IsSymbolBelow x.grammar.terminals x.grammar.nonterminals) (Nonterminal a) xs all),
  )

  -- and those that are no markers are no marks
  pub piece_bare : (k : ℕ) (x : Piece) → slice_get pieces k ≡ Some x → (xs : List Symbol) →
      All (IsSymbolBelow x.grammar.terminals x.grammar.nonterminals) xs → Each (IsUnmarked x) xs →
      Each (IsBare (W g extensible pieces)) (map (renamed (into_by g extensible pieces k)) xs)
  piece_bare k x at [] all bares = tt
  piece_bare k x at (Terminal t ∷ xs) all bares = (
    (moved g extensible pieces k x t (piece_ok k x at) at
        (All-head (IsSymbolBelow x.grammar.terminals x.grammar.nonterminals) (Terminal t) xs all)).mark ∙ bares.0,
    piece_bare k x at xs (All-tail (IsSymbolBelow x.grammar.terminals x.grammar.nonterminals) (Terminal t) xs all) bares.1,
  )
  piece_bare k x at (Nonterminal a ∷ xs) all bares =
      (tt, piece_bare k x at xs (All-tail (IsSymbolBelow x.grammar.terminals x.grammar.nonterminals) (Nonterminal a) xs all) bares.1)

  -- an extensible nonterminal is the host's
  pub extensible_below : (a : ℕ) → Contains extensible a → a < g.nonterminals
  extensible_below a has = all_contained (λ b. b < g.nonterminals) extensible a ok.within has

  -- a mark, with its production
  pub record Bridge (m a : ℕ) : Type 0 where
    pub o : Owner
    pub rest : List Symbol
    pub facts : Facts g extensible pieces ((W g extensible pieces).production_of m) o a (Terminal m ∷ rest)
    pub owner : (W g extensible pieces).symbol_owner (Terminal m) ≡ o
    pub has : Contains extensible a
    pub is_hole : o ≡ hole → m ≡ (united g extensible pieces).terminals + index_of extensible a

  -- the bridge of a marker
  marker_bridge : (k : ℕ) (x : Piece) (u m a : ℕ) → slice_get pieces k ≡ Some x → x.mark u ≡ on a →
      m ≡ (into_by g extensible pieces k).terminal u → Bridge m a
  marker_bridge k x u m a at mark m_is =
      let is : IsMarker g extensible x u a = (piece_ok k x at).markers u a mark in
      let (rest, rule) = is.bridge_is in
      let far = is.own_bridge in
      let there : length g.productions + (x.bridge u - length g.productions) ≡ x.bridge u = omega (arith, far) in
      let kept = moved g extensible pieces k x u (piece_ok k x at) at is.within in
      let p_is : (W g extensible pieces).production_of m ≡ length g.productions +
      (count_before (production_sizes g extensible pieces) k + (x.bridge u - length g.productions)) =
      ap (W g extensible pieces).production_of m_is ∙ (kept.production is.own ∙
      (lift_past (length g.productions) (count_before (production_sizes g extensible pieces) k) (x.bridge u) far ∙
      (omega (arith, far)))) in
      let facts = extension_facts g extensible pieces k x (x.bridge u - length g.productions) a (Terminal u ∷ rest)
      ((W g extensible pieces).production_of m) at (subst (λ z. IsProduction x.grammar z a (Terminal u ∷ rest)) (sym there) rule) p_is
      in
      let a_is : (into_by g extensible pieces k).nonterminal a ≡ a =
      lift_below g.nonterminals (0 + count_before (nonterminal_sizes g extensible pieces) k) a
      (extensible_below a is.extensible_left) in
      record {
        o = extension k;
        rest = map (renamed (into_by g extensible pieces k)) rest;
        facts = record {
          owner = facts.owner;
          left = facts.left ∙ a_is;
          right_is = facts.right_is ∙ ap (λ z. Terminal z ∷ map (renamed (into_by g extensible pieces k)) rest) (sym m_is);
        };
        owner = ap (λ z. (W g extensible pieces).symbol_owner (Terminal z)) m_is ∙ kept.own is.own;
        has = is.extensible_left;
        is_hole = λ e. absurd (let f : extension k ≡ hole = e in cc);
      }

  -- the production of a hole
  hole_bridge : (j m a : ℕ) → slice_get extensible j ≡ Some a → m ≡ (united g extensible pieces).terminals + j → Bridge m a
  hole_bridge j m a at m_is =
      let terminal = hole_terminal g extensible pieces j a m at m_is in
      let facts = hole_facts g extensible pieces j a ((W g extensible pieces).production_of m) at terminal.production in
      let j_is : j ≡ index_of extensible a = ok.differ a j (index_of extensible a) at (index_at extensible a j at) in
      record {
        o = hole;
        rest = [];
        facts = record { owner = facts.owner; left = facts.left; right_is = facts.right_is ∙ ap (λ z. Terminal z ∷ []) (sym m_is) };
        owner = terminal.owner;
        has = contains_at extensible a j at;
        is_hole = λ _. m_is ∙ ap (λ z. (united g extensible pieces).terminals + z) j_is;
      }

  -- each mark is a marker or a hole
  pub bridge_of : (m a : ℕ) → (W g extensible pieces).mark m ≡ on a → Bridge m a
  bridge_of m a mark = go (terminal_view g extensible pieces m)
    where
      go : TerminalOf g extensible pieces m → Bridge m a
      go (symbol.of_grammar below) = absurd (no_mark a (sym (host_terminal g extensible pieces m below).mark ∙ mark))
      go (symbol.of_piece k x i at within is) =
          let far : g.terminals ≤ g.terminals + i = omega arith in
          let m_is : m ≡ (into_by g extensible pieces k).terminal (g.terminals + i) =
          is ∙ ((omega arith) ∙
          sym (lift_past g.terminals (0 + count_before (terminal_sizes g extensible pieces) k) (g.terminals + i) far)) in
          marker_bridge k x (g.terminals + i) m a at (sym (piece_terminal g extensible pieces k x i m at within is).mark ∙ mark) m_is
      go (symbol.of_hole j b at is) =
          let same : on b ≡ on a = sym (hole_terminal g extensible pieces j b m at is).mark ∙ mark in
          let b_is : b ≡ a = cc in
          hole_bridge j m a (at ∙ ap Some b_is) is
      go (symbol.of_end is) = absurd (no_mark a (sym (end_facts g extensible pieces m is).mark ∙ mark))
      go (symbol.of_rest j is) = absurd (no_mark a (sym (rest_facts g extensible pieces j m is).mark ∙ mark))

  -- the hole of an extensible nonterminal
  pub hole_at : (a : ℕ) → Contains extensible a →
      TerminalFacts g extensible pieces ((W g extensible pieces).hole_on a) hole (on a)
      (length (united g extensible pieces).productions + index_of extensible a)
  hole_at a has =
      let (j, at) = place_of extensible a has in
      hole_terminal g extensible pieces (index_of extensible a) a ((W g extensible pieces).hole_on a) (index_at extensible a j at) refl

  -- and its production
  pub hole_right_at : (a : ℕ) → Contains extensible a →
      (W g extensible pieces).right ((W g extensible pieces).production_of ((W g extensible pieces).hole_on a))
      ≡ Terminal ((W g extensible pieces).hole_on a) ∷ []
  hole_right_at a has =
      let (j, at) = place_of extensible a has in
      (hole_facts g extensible pieces (index_of extensible a) a
      ((W g extensible pieces).production_of ((W g extensible pieces).hole_on a)) (index_at extensible a j at)
      (hole_at a has).production).right_is
