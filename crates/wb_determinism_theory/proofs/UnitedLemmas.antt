-- A host and one extension, in numbers.
use Rattle.std.proofs.Common.{◌+◌, ◌<◌, ◌≤◌, ◌∙◌, ◌∷◌, ◌≡◌, [], ℕ, List, None, Some, arith, inl, inr}
use Rattle.std.proofs.Common.{length, refl, slice_get, subst, suc, sym, zero}
use Rattle.std.specs.Prelude.{◌↔◌}
use Rattle.std.proofs.lemmas.Bool.{cases_lt}
use Rattle.std.proofs.lemmas.Option.{slice_get_cases}
use Rattle.wb_base.specs.declared.symbol.Symbol.TheVariants.{Terminal}
use Rattle.wb_base.specs.Grammar.{GrammarView}
use Rattle.wb_grammar_theory.specs.Productions.{end_of}
use Rattle.wb_grammar_theory.specs.Shape.{IsReduced}
use Rattle.wb_marking_holes.specs.Holes.{with_holes_of}
use Rattle.wb_compose_theory.proofs.FitLemmas.{reduced_there}
use Rattle.wb_compose_theory.proofs.PartLemmas.{both_productive, plus_productive}
use Rattle.wb_compose_theory.specs.Marks.{IsMarked}
use Rattle.wb_compose_theory.specs.Numbered.{KeepsKernelLookaheads}
use Rattle.wb_compose_theory.specs.Seams.{AreNumberings}
use Rattle.wb_compose_theory.specs.Worlds.{Has, IsSymbolIn, Owner, alone, both, extension, hole, host, plain}
use Rattle.wb_compose_theory_grammar.specs.Cuts.{no_cut}
use Rattle.wb_compose_theory_grammar.specs.Numberings.{cut_of, names_in, phi_of, up_of}
use Rattle.wb_compose_theory_grammar.specs.Pieces.{ArePieces, Piece}
use Rattle.wb_compose_theory_grammar.specs.Unions.{added_terminals}
use Rattle.wb_compose_theory_grammar.specs.Places.{count_before}
use Rattle.wb_compose_theory_grammar.proofs.BridgeLemmas.{piece_ok}
use Rattle.wb_compose_theory_grammar.proofs.CompositionLemmas.{numberings}
use Rattle.wb_compose_theory_grammar.proofs.CoverLemmas.{host_covers, piece_covers}
use Rattle.wb_compose_theory_grammar.proofs.CutLemmas.{plain_numbering}
use Rattle.wb_compose_theory_grammar.proofs.FactLemmas.{W}
use Rattle.wb_compose_theory_grammar.proofs.MarkedLemmas.{united_marked}
use Rattle.wb_compose_theory_grammar.proofs.PlaceLemmas.{spread_below, spread_middle, spread_past}
use Rattle.wb_compose_theory_grammar.proofs.SymbolLemmas.{TerminalOf, end_facts, hole_terminal, host_terminal, of_end, of_grammar}
use Rattle.wb_compose_theory_grammar.proofs.SymbolLemmas.{of_hole, of_piece, of_rest}
use Rattle.wb_compose_theory_grammar.proofs.SymbolLemmas.{piece_terminal, rest_facts, terminal_view}
use Rattle.wb_determinism_theory.specs.Beside.{IsBeside, IsKeptBeside}
use Rattle.wb_determinism_theory.specs.Laws.{IsPrepared}
use Rattle.wb_determinism_theory.specs.Inner.Terminals.{AreTerminals}
use Rattle.wb_determinism_theory.proofs.KeptLemmas.{kept_beside}
use Rattle.wb_determinism_theory.proofs.SeamLemmas.{beside}

-- a place in a list
inside : {X : Type 0} (xs : List X) (i : ℕ) (x : X) → slice_get xs i ≡ Some x → i < length xs
inside xs i x is = elim (slice_get_cases xs i).1 [
  | inl found ↦ found.1
  | inr past ↦ (let n : slice_get xs i ≡ None = past.1 in let f : None ≡ Some x = sym n ∙ is in cc)
]

-- the one place of one
first_only : (x y : Piece) (k : ℕ) → slice_get (x ∷ []) k ≡ Some y → (k ≡ 0) × (x ≡ y)
first_only x y zero is = (refl, cc)
first_only x y (suc k) is = cc

module _ (g : GrammarView) (extensible : List ℕ) (x : Piece) (ok : ArePieces g extensible (x ∷ [])) where
  -- numbers with one extension are names
  name_is : (t : ℕ) → (names_in g extensible (x ∷ []) (cut_of g extensible (x ∷ []) 0 x) 0).terminal t ≡ t
  name_is t = elim (cases_lt t g.terminals) [
    | inl below ↦ spread_below g.terminals 0 size ((size + 0) + 0) t below
    | inr far ↦ elim (cases_lt t (g.terminals + size)) [
      | inl below ↦ spread_middle g.terminals 0 size ((size + 0) + 0) t far below ∙ omega arith
      | inr past ↦ spread_past g.terminals 0 size ((size + 0) + 0) t past ∙ omega arith
    ]
  ]
    where
      size : ℕ
      size = added_terminals g x.grammar

  -- terminals and the end are those of the world, and no others
  are_terminals : AreTerminals (with_holes_of x.grammar extensible) (W g extensible (x ∷ [])) (both 0)
      (names_in g extensible (x ∷ []) (cut_of g extensible (x ∷ []) 0 x) 0)
  are_terminals t =
      subst (λ z. (t ≤ end_of (with_holes_of x.grammar extensible)) ↔ IsSymbolIn (W g extensible (x ∷ [])) (both 0) (Terminal z))
      (sym (name_is t)) (there, back)
    where
      has : (o : Owner) → (W g extensible (x ∷ [])).symbol_owner (Terminal t) ≡ o → Has (both 0) o →
          IsSymbolIn (W g extensible (x ∷ [])) (both 0) (Terminal t)
      has o is h = subst (Has (both 0)) (sym is) h

      more : g.terminals ≤ x.grammar.terminals
      more = (piece_ok g extensible (x ∷ []) ok 0 x refl).extends.terminals

      there : t ≤ end_of (with_holes_of x.grammar extensible) → IsSymbolIn (W g extensible (x ∷ [])) (both 0) (Terminal t)
      there within = go (terminal_view g extensible (x ∷ []) t)
        where
          go : TerminalOf g extensible (x ∷ []) t → IsSymbolIn (W g extensible (x ∷ [])) (both 0) (Terminal t)
          go (of_grammar below) = has host (host_terminal g extensible (x ∷ []) t below).owner tt
          go (of_piece k y i at less is) =
              has (extension k) (piece_terminal g extensible (x ∷ []) k y i t at less is).owner ((first_only x y k at).0)
          go (of_hole j a at is) = has hole (hole_terminal g extensible (x ∷ []) j a t at is).owner tt
          go (of_end is) = has host (end_facts g extensible (x ∷ []) t is).owner tt
          go (of_rest j is) = absurd (omega (arith, within, is, more))

      back : IsSymbolIn (W g extensible (x ∷ [])) (both 0) (Terminal t) → t ≤ end_of (with_holes_of x.grammar extensible)
      back named = go (terminal_view g extensible (x ∷ []) t)
        where
          piece_below : (k : ℕ) (y : Piece) (i : ℕ) → (k ≡ 0) × (x ≡ y) → i < added_terminals g y.grammar →
              t ≡ g.terminals + (count_before (added_terminals g x.grammar ∷ []) k + i) →
              t ≤ end_of (with_holes_of x.grammar extensible)
          piece_below k y i (k_is, y_is) less is =
              let less' : i < added_terminals g x.grammar = subst (λ z. i < added_terminals g z.grammar) (sym y_is) less in
              let is' : t ≡ g.terminals + (0 + i) =
              subst (λ z. t ≡ g.terminals + (count_before (added_terminals g x.grammar ∷ []) z + i)) k_is is in
              omega (arith, less', is', more)

          go : TerminalOf g extensible (x ∷ []) t → t ≤ end_of (with_holes_of x.grammar extensible)
          go (of_grammar below) = omega (arith, below, more)
          go (of_piece k y i at less is) = piece_below k y i (first_only x y k at) less is
          go (of_hole j a at is) = let near = inside extensible j a at in omega (arith, near, is, more)
          go (of_end is) = omega (arith, is, more)
          go (of_rest j is) = absurd (subst (Has (both 0)) (rest_facts g extensible (x ∷ []) j t is).owner named)

  module _ (host_reduced : IsReduced g) (reduced : IsReduced x.grammar) where
    seam : AreNumberings (with_holes_of g extensible) (with_holes_of x.grammar extensible) (up_of g x.grammar) (phi_of extensible x)
        (W g extensible (x ∷ [])) 0 (names_in g extensible (x ∷ []) no_cut 0)
        (names_in g extensible (x ∷ []) (cut_of g extensible (x ∷ []) 0 x) 0)
    seam = numberings g extensible (x ∷ []) ok 0 x refl

    marked : IsMarked (W g extensible (x ∷ []))
    marked = united_marked g extensible (x ∷ []) ok

    ready : IsPrepared (W g extensible (x ∷ [])) 0
    ready = record {
      is_marked = marked;
      host = plus_productive marked (reduced_there (plain_numbering g extensible (x ∷ []) ok g plain no_cut
          (host_covers g extensible (x ∷ []) ok)) host_reduced).productive;
      both_parts = both_productive marked 0 (reduced_there (plain_numbering g extensible (x ∷ []) ok x.grammar (alone 0)
          (cut_of g extensible (x ∷ []) 0 x) (piece_covers g extensible (x ∷ []) ok 0 x refl)) reduced).productive;
    }

    pub united_beside : IsBeside (with_holes_of g extensible) (with_holes_of x.grammar extensible) (up_of g x.grammar)
        (phi_of extensible x)
    united_beside = beside seam ready are_terminals

    pub united_kept : KeepsKernelLookaheads (with_holes_of g extensible) (with_holes_of x.grammar extensible) (up_of g x.grammar)
        (phi_of extensible x) →
        IsKeptBeside (with_holes_of g extensible) (with_holes_of x.grammar extensible) (up_of g x.grammar) (phi_of extensible x)
    united_kept rule = kept_beside seam ready are_terminals rule
