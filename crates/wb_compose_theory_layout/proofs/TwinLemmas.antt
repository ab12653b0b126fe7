-- Terminals of the union up to markers, and terminals that are valid with their twins.
use Rattle.std.proofs.Common.{◌≡◌, ◌≢◌, ◌<◌, ◌+◌, ◌∙◌, ℕ, List, Some, length, map, slice_get, refl, sym, ap, subst, inl, inr, arith}
use Rattle.std.proofs.lemmas.Option.{slice_get_within}
use Rattle.wb_base.specs.declared.symbol.Symbol.TheVariants.{Terminal}
use Rattle.wb_base.specs.declared.symbol.Symbol.{Symbol}
use Rattle.wb_base.specs.Grammar.{GrammarView}
use Rattle.wb_compose_theory.proofs.ComposedLemmas.{composable_apart}
use Rattle.wb_compose_theory.proofs.MarkLemmas.{phi_bare, phi_phi}
use Rattle.wb_compose_theory.proofs.NumberLemmas.{terminal_renamed}
use Rattle.wb_compose_theory.proofs.PartLemmas.{productive_both}
use Rattle.wb_compose_theory.proofs.TwinLemmas.{valid_twin}
use Rattle.wb_compose_theory.specs.Lookaheads.{IsValidTerminalIn}
use Rattle.wb_compose_theory.specs.Marks.{Uses, phi}
use Rattle.wb_compose_theory.specs.Renamings.{renamed}
use Rattle.wb_compose_theory.specs.Worlds.{Has, Owner, both, extension}
use Rattle.wb_compose_theory_grammar.proofs.ApartLemmas.{into_is, not_in_other}
use Rattle.wb_compose_theory_grammar.proofs.BridgeLemmas.{piece_ok}
use Rattle.wb_compose_theory_grammar.proofs.CompositionLemmas.{both_numbering, united_composition}
use Rattle.wb_compose_theory_grammar.proofs.CoverLemmas.{terminal_into}
use Rattle.wb_compose_theory_grammar.proofs.FactLemmas.{W, into_by}
use Rattle.wb_compose_theory_grammar.proofs.RangeLemmas.{spread_same}
use Rattle.wb_compose_theory_grammar.proofs.SymbolLemmas.{moved}
use Rattle.wb_compose_theory_grammar.proofs.UnionCoverLemmas.{terminal_stays}
use Rattle.wb_compose_theory_grammar.proofs.UnionGrammarLemmas.{terminal_below}
use Rattle.wb_compose_theory_grammar.specs.Certificates.{AreCertified}
use Rattle.wb_compose_theory_grammar.specs.Laws.{IsOwn, in_union}
use Rattle.wb_compose_theory_grammar.specs.Numberings.{composition_of, cut_of, names_in, whole_cut}
use Rattle.wb_compose_theory_grammar.specs.Pieces.{Piece}
use Rattle.wb_compose_theory_grammar.specs.Places.{total_of}
use Rattle.wb_compose_theory_grammar.specs.UnitedWorlds.{terminal_sizes, united}
use Rattle.wb_grammar_theory.specs.Lookaheads.{IsValidTerminal}
use Rattle.wb_marking_holes.specs.Holes.{with_holes_of}

-- what an extension may use is of the host with holes and that extension
seen : (k : ℕ) (o : Owner) → Uses (extension k) o → Has (both k) o
seen k o (inl is) = subst (Has (both k)) (sym is) tt
seen k o (inr is) = subst (Has (both k)) (sym is) refl

module _ (g : GrammarView) (extensible : List ℕ) (pieces : List Piece) (is : AreCertified g extensible pieces) where
  -- where phi takes a terminal of the union
  pub image_of : (t : ℕ) → t < (united g extensible pieces).terminals →
      phi (W g extensible pieces) ((names_in g extensible pieces (whole_cut g extensible pieces) (length extensible)).terminal t) ≡
      phi (W g extensible pieces) t
  image_of t less =
      ap (phi (W g extensible pieces))
      (spread_same g.terminals 0 (total_of (terminal_sizes g extensible pieces))
      (total_of (terminal_sizes g extensible pieces) + length extensible) (total_of (terminal_sizes g extensible pieces) + 0) t less ∙
      terminal_stays g extensible pieces is.are_pieces t less)

  -- where what phi makes of a terminal of an extension's grammar is valid there, the terminal is
  pub twin_valid : (k : ℕ) (x : Piece) → slice_get pieces k ≡ Some x → (u b : ℕ) (prefix : List Symbol) → u < x.grammar.terminals →
      (names_in g extensible pieces (cut_of g extensible pieces k x) 0).terminal b ≡
      phi (W g extensible pieces) ((into_by g extensible pieces k).terminal u) →
      IsValidTerminal (with_holes_of x.grammar extensible) prefix b → IsValidTerminal (with_holes_of x.grammar extensible) prefix u
  twin_valid k x at u b prefix less b_is valid =
      let w = W g extensible pieces in
      let composition = united_composition g extensible pieces is in
      let r = names_in g extensible pieces (cut_of g extensible pieces k x) 0 in
      let numbering = both_numbering g extensible pieces is.are_pieces k x at in
      let certified = (composable_apart w (length pieces) (composition_of g extensible pieces) composition).of_extension k
      (slice_get_within pieces k x at) in
      let live = productive_both composition.is_marked k certified in
      let mine = (moved g extensible pieces k x u (piece_ok g extensible pieces is.are_pieces k x at) at less).owner in
      let there = (terminal_renamed numbering prefix b).0 valid in
      let same = sym (phi_phi w composition.is_marked ((into_by g extensible pieces k).terminal u)) ∙ ap (phi w) (sym b_is) in
      let twin = valid_twin composition.is_marked live (map (renamed r) prefix) (r.terminal b) ((into_by g extensible pieces k).terminal u)
      there (seen k (w.symbol_owner (Terminal ((into_by g extensible pieces k).terminal u))) mine) same in
      (terminal_renamed numbering prefix u).1 (subst (IsValidTerminalIn w (both k) (map (renamed r) prefix))
      (terminal_into g extensible pieces is.are_pieces k x at u less) twin)

  -- a terminal of another extension's own that is no marker has no number in the grammar with an extension
  pub not_valid_beside : (k l : ℕ) (x y : Piece) → slice_get pieces k ≡ Some x → slice_get pieces l ≡ Some y → k ≢ l → (u number : ℕ)
      → IsOwn g extensible pieces y u
      → (names_in g extensible pieces (cut_of g extensible pieces k x) 0).terminal number
      ≡ phi (W g extensible pieces) ((names_in g extensible pieces (whole_cut g extensible pieces) (length extensible)).terminal
      (in_union g extensible pieces l u))
      → ⊥
  not_valid_beside k l x y at there differ u number own named =
      let into = into_is g extensible pieces is l u in
      let below = terminal_below g extensible pieces is.are_pieces l y u there own.within in
      let image = image_of (in_union g extensible pieces l u) (subst (λ z. z < (united g extensible pieces).terminals) (sym into) below) in
      let bare_is = phi_bare (W g extensible pieces) ((into_by g extensible pieces l).terminal u)
      ((moved g extensible pieces l y u (piece_ok g extensible pieces is.are_pieces l y there) there own.within).mark ∙ own.unmarked) in
      not_in_other g extensible pieces is l k y x there at (λ same. differ (sym same)) u number own
      (named ∙ (image ∙ (ap (phi (W g extensible pieces)) into ∙ bare_is)))
