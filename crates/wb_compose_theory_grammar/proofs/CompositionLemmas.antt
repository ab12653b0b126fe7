-- A host and certified extensions are a composition in their world.
use Rattle.std.proofs.Common.{◌≡◌, ◌<◌, ◌≤◌, ◌+◌, ◌-◌, ◌∙◌, ◌⊎◌, ℕ, suc, List, Some, length, slice_get, refl, sym, ap, subst, inl, inr}
use Rattle.std.proofs.Common.{arith}
use Rattle.std.proofs.lemmas.Bool.{cases_lt}
use Rattle.wb_base.specs.declared.symbol.Symbol.TheVariants.{Nonterminal}
use Rattle.wb_base.specs.Grammar.{GrammarView}
use Rattle.wb_lemmas.proofs.Elements.{all_at}
use Rattle.wb_lemmas.proofs.Places.{at_within}
use Rattle.wb_marking_holes.specs.Holes.{with_holes_of}
use Rattle.wb_compose_theory.proofs.BlockLemmas.{lift_spread}
use Rattle.wb_compose_theory.proofs.MarkLemmas.{phi_bare, phi_on}
use Rattle.wb_compose_theory.specs.Composed.{IsCertifiedExtension, IsComposition, IsExtended}
use Rattle.wb_compose_theory.specs.Marks.{phi}
use Rattle.wb_compose_theory.specs.Seams.{AreNumberings, IsNumbering}
use Rattle.wb_compose_theory.specs.Worlds.{Has, Mark, Owner, alone, bare, both, extension, hole, host, on, plain, plus, top, union}
use Rattle.wb_compose_theory_grammar.specs.Certificates.{AreCertified, IsCertifiedPiece}
use Rattle.wb_compose_theory_grammar.specs.Numberings.{composition_of, cut_of, extended_in, image_of, names_in, phi_of, up_of, whole_cut}
use Rattle.wb_compose_theory_grammar.specs.Cuts.{no_cut}
use Rattle.wb_compose_theory_grammar.specs.Pieces.{Piece, ArePieces}
use Rattle.wb_compose_theory_grammar.specs.Places.{count_before, total_of}
use Rattle.wb_compose_theory_grammar.specs.Unions.{added_nonterminals, added_productions, added_terminals}
use Rattle.wb_compose_theory_grammar.specs.UnitedWorlds.{index_of, nonterminal_sizes, production_sizes, terminal_sizes, united}
use Rattle.wb_compose_theory_grammar.proofs.CoverLemmas.{host_covers, lift_is_spread, piece_covers, piece_sizes}
use Rattle.wb_compose_theory_grammar.proofs.CutLemmas.{holes_numbering, past_terminal, plain_numbering}
use Rattle.wb_compose_theory_grammar.proofs.FactLemmas.{W, into_by}
use Rattle.wb_compose_theory_grammar.proofs.BridgeLemmas.{index_at, piece_ok}
use Rattle.wb_compose_theory_grammar.proofs.MarkedLemmas.{united_marked}
use Rattle.wb_compose_theory_grammar.proofs.SymbolLemmas.{end_facts, hole_terminal, moved, rest_facts}
use Rattle.wb_compose_theory_grammar.proofs.UnionCoverLemmas.{union_covers}

-- the host with holes has the host and the holes
plus_has : (o : Owner) → Has plain o → Has plus o
plus_has host h = tt
plus_has hole h = absurd h
plus_has (extension k) h = absurd h
plus_has top h = absurd h

-- and no more
plus_only : (o : Owner) → Has plus o → (o ≡ hole) ⊎ Has plain o
plus_only host h = inr tt
plus_only hole h = inl refl
plus_only (extension k) h = absurd h
plus_only top h = absurd h

-- the host with holes and an extension has the host with it, and the holes
both_has : (k : ℕ) (o : Owner) → Has (alone k) o → Has (both k) o
both_has k host h = tt
both_has k hole h = absurd h
both_has k (extension l) h = h
both_has k top h = absurd h

-- and no more
both_only : (k : ℕ) (o : Owner) → Has (both k) o → (o ≡ hole) ⊎ Has (alone k) o
both_only k host h = inr tt
both_only k hole h = inl refl
both_only k (extension l) h = inr h
both_only k top h = absurd h

module _ (g : GrammarView) (extensible : List ℕ) (pieces : List Piece) (ok : ArePieces g extensible pieces) where
  -- the host with holes
  pub host_numbering : IsNumbering (with_holes_of g extensible) (W g extensible pieces) plus (names_in g extensible pieces no_cut 0)
  host_numbering = holes_numbering g extensible pieces ok g plain no_cut (host_covers g extensible pieces ok) plus plus_has tt plus_only
      (λ b has. elim (plus_only ((W g extensible pieces).symbol_owner (Nonterminal b)) has) [
        | inl is ↦ absurd ((united_marked g extensible pieces ok).named.no_hole b is)
        | inr mine ↦ mine
      ])

  module _ (k : ℕ) (x : Piece) (at : slice_get pieces k ≡ Some x) where
    -- the host with holes and an extension
    pub both_numbering : IsNumbering (with_holes_of x.grammar extensible) (W g extensible pieces) (both k)
        (names_in g extensible pieces (cut_of g extensible pieces k x) 0)
    both_numbering = holes_numbering g extensible pieces ok x.grammar (alone k) (cut_of g extensible pieces k x)
        (piece_covers g extensible pieces ok k x at) (both k) (both_has k) tt (both_only k)
        (λ b has. elim (both_only k ((W g extensible pieces).symbol_owner (Nonterminal b)) has) [
          | inl is ↦ absurd ((united_marked g extensible pieces ok).named.no_hole b is)
          | inr mine ↦ mine
        ])

    -- phi in the numbers of the host with the extension
    phi_is : (t : ℕ) → (names_in g extensible pieces (cut_of g extensible pieces k x) 0).terminal (phi_of extensible x t)
        ≡ phi (W g extensible pieces) ((names_in g extensible pieces (cut_of g extensible pieces k x) 0).terminal t)
    phi_is t = elim (cases_lt t x.grammar.terminals) [ inl less ↦ within (x.mark t) refl less | inr far ↦ past_all far ]
      where
        names : ℕ → ℕ
        names = (names_in g extensible pieces (cut_of g extensible pieces k x) 0).terminal

        past_is : (j : ℕ) → names (x.grammar.terminals + j) ≡ (united g extensible pieces).terminals + j
        past_is j = past_terminal g extensible pieces ok x.grammar (alone k) (cut_of g extensible pieces k x)
            (piece_covers g extensible pieces ok k x at) j

        mark_is : t < x.grammar.terminals → (W g extensible pieces).mark (names t) ≡ x.mark t
        mark_is less =
            let size = (piece_sizes g extensible pieces ok k x at).terminals in
            let same : (into_by g extensible pieces k).terminal t ≡ names t =
            lift_is_spread g.terminals (count_before (terminal_sizes g extensible pieces) k) (added_terminals g x.grammar)
            (total_of (terminal_sizes g extensible pieces) + 0) t (omega (arith, less, size)) in
            ap (W g extensible pieces).mark (sym same) ∙
            (moved g extensible pieces k x t (piece_ok g extensible pieces ok k x at) at less).mark

        within : (m : Mark) → x.mark t ≡ m → t < x.grammar.terminals →
            names (phi_of extensible x t) ≡ phi (W g extensible pieces) (names t)
        within bare is less = ap (λ z. names (image_of extensible x z t)) is ∙
            sym (phi_bare (W g extensible pieces) (names t) (mark_is less ∙ is))
        within (on a) is less = ap (λ z. names (image_of extensible x z t)) is ∙
            (past_is (index_of extensible a) ∙ sym (phi_on (W g extensible pieces) (names t) a (mark_is less ∙ is)))

        unmarked : (m : Mark) → x.mark t ≡ m → x.grammar.terminals ≤ t → x.mark t ≡ bare
        unmarked bare is far = is
        unmarked (on a) is far =
            let below = ((piece_ok g extensible pieces ok k x at).markers t a is).within in absurd (omega (arith, below, far))

        past_all : x.grammar.terminals ≤ t → names (phi_of extensible x t) ≡ phi (W g extensible pieces) (names t)
        past_all far = ap (λ z. names (image_of extensible x z t)) (unmarked (x.mark t) refl far) ∙
            sym (elim (cases_lt (t - x.grammar.terminals) (length extensible)) [ inl less ↦ at_hole less | inr over ↦ after_holes over ])
          where
            there : x.grammar.terminals + (t - x.grammar.terminals) ≡ t
            there = omega (arith, far)

            place : names t ≡ (united g extensible pieces).terminals + (t - x.grammar.terminals)
            place = ap names (sym there) ∙ past_is (t - x.grammar.terminals)

            at_hole : t - x.grammar.terminals < length extensible → phi (W g extensible pieces) (names t) ≡ names t
            at_hole less =
                let (a, a_at) = at_within extensible (t - x.grammar.terminals) less in
                let facts = hole_terminal g extensible pieces (t - x.grammar.terminals) a (names t) a_at place in
                let same : t - x.grammar.terminals ≡ index_of extensible a =
                ok.differ a (t - x.grammar.terminals) (index_of extensible a) a_at
                (index_at extensible a (t - x.grammar.terminals) a_at) in
                phi_on (W g extensible pieces) (names t) a facts.mark ∙
                (ap (λ z. (united g extensible pieces).terminals + z) (sym same) ∙ sym place)

            bare_after : length extensible ≤ t - x.grammar.terminals → (W g extensible pieces).mark (names t) ≡ bare
            bare_after over = elim (cases_lt (length extensible) (t - x.grammar.terminals)) [
              | inl more ↦
                  (rest_facts g extensible pieces (t - x.grammar.terminals - suc (length extensible)) (names t)
                  (let is = place in omega (arith, is, more))).mark
              | inr few ↦ (end_facts g extensible pieces (names t) (let is = place in omega (arith, is, over, few))).mark
            ]

            after_holes : length extensible ≤ t - x.grammar.terminals → phi (W g extensible pieces) (names t) ≡ names t
            after_holes over = phi_bare (W g extensible pieces) (names t) (bare_after over)

    -- both grammars and how the one is in the other
    pub numberings : AreNumberings (with_holes_of g extensible) (with_holes_of x.grammar extensible) (up_of g x.grammar)
        (phi_of extensible x)
        (W g extensible pieces) k (names_in g extensible pieces no_cut 0) (names_in g extensible pieces (cut_of g extensible pieces k x) 0)
    numberings =
        let sizes = piece_sizes g extensible pieces ok k x at in
        record {
          of_host = host_numbering;
          of_both = both_numbering;
          terminals = lift_spread g.terminals (count_before (terminal_sizes g extensible pieces) k) (added_terminals g x.grammar)
              (total_of (terminal_sizes g extensible pieces) + 0) (let fits = sizes.terminals_fit in omega (arith, fits));
          nonterminals = lift_spread g.nonterminals (count_before (nonterminal_sizes g extensible pieces) k)
              (added_nonterminals g x.grammar) (total_of (nonterminal_sizes g extensible pieces)) sizes.nonterminals_fit;
          productions = lift_spread (length g.productions) (count_before (production_sizes g extensible pieces) k)
              (added_productions g x.grammar) (total_of (production_sizes g extensible pieces) + 0)
              (let fits = sizes.productions_fit in omega (arith, fits));
          phis = phi_is;
        }

    -- the grammars of the extension
    pub extended : IsExtended (W g extensible pieces) (composition_of g extensible pieces) k (extended_in g extensible pieces k (Some x))
    extended = record {
      plain_numbering = plain_numbering g extensible pieces ok x.grammar (alone k) (cut_of g extensible pieces k x)
          (piece_covers g extensible pieces ok k x at);
      numberings = numberings;
    }

-- certified extensions are a composition
pub united_composition : (g : GrammarView) (extensible : List ℕ) (pieces : List Piece) → AreCertified g extensible pieces →
    IsComposition (W g extensible pieces) (length pieces) (composition_of g extensible pieces)
united_composition g extensible pieces is = record {
  is_marked = united_marked g extensible pieces is.are_pieces;
  of_plain = plain_numbering g extensible pieces is.are_pieces g plain no_cut (host_covers g extensible pieces is.are_pieces);
  of_host = host_numbering g extensible pieces is.are_pieces;
  of_union = plain_numbering g extensible pieces is.are_pieces (united g extensible pieces) (union (length pieces))
      (whole_cut g extensible pieces) (union_covers g extensible pieces is.are_pieces);
  of_extension = λ k less. (let (x, at) = at_within pieces k less in
      subst (λ o. IsExtended (W g extensible pieces) (composition_of g extensible pieces) k (extended_in g extensible pieces k o)) (sym at)
      (extended g extensible pieces is.are_pieces k x at));
  host_certified = is.host_certified;
  extension_certified = λ k less. (let (x, at) = at_within pieces k less in
      let certified = all_at (IsCertifiedPiece g extensible) pieces k x is.each_certified at in
      subst (λ o. IsCertifiedExtension (composition_of g extensible pieces) (extended_in g extensible pieces k o)) (sym at)
      (record { fit = certified.fit; composable = certified.composable }));
}
