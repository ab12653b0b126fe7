-- Terminals that are valid together in the union are so in what was certified.
use Rattle.std.proofs.Common.{◌≡◌, ◌≢◌, ◌<◌, ◌∙◌, ℕ, List, Some, length, map, slice_get, refl, sym, ap, subst, inl, inr, arith}
use Rattle.std.proofs.lemmas.Bool.{cases_eq}
use Rattle.std.proofs.lemmas.Option.{same_Some, slice_get_within}
use Rattle.wb_base.specs.declared.symbol.Symbol.{Symbol}
use Rattle.wb_base.specs.declared.symbol.Symbol.TheVariants.{Terminal}
use Rattle.wb_base.specs.Grammar.{GrammarView}
use Rattle.wb_grammar_theory.specs.Lookaheads.{IsValidTerminal}
use Rattle.wb_marking_holes.specs.Holes.{with_holes_of}
use Rattle.wb_compose_theory.proofs.ComposedLemmas.{composable_apart}
use Rattle.wb_compose_theory.proofs.MarkLemmas.{phi_bare, phi_phi}
use Rattle.wb_compose_theory.proofs.NumberLemmas.{terminal_renamed}
use Rattle.wb_compose_theory.proofs.PartLemmas.{productive_both}
use Rattle.wb_compose_theory.proofs.TwinLemmas.{valid_twin}
use Rattle.wb_compose_theory.specs.Lookaheads.{IsValidTerminalIn}
use Rattle.wb_compose_theory.specs.Marks.{Uses, phi}
use Rattle.wb_compose_theory.specs.Numbered.{IsNewHostKernel, IsValidInEnvelope}
use Rattle.wb_compose_theory.specs.Renamings.{renamed}
use Rattle.wb_compose_theory.specs.Worlds.{Has, Owner, bare, both, extension}
use Rattle.wb_compose_theory_grammar.specs.Certificates.{AreCertified}
use Rattle.wb_compose_theory_grammar.specs.Cuts.{no_cut}
use Rattle.wb_compose_theory_grammar.specs.Laws.{AreApartFor, AreHostApart, HasTogether, IsOwn, IsTogether, host_kernel_of, in_union}
use Rattle.wb_compose_theory_grammar.specs.Numberings.{composition_of, cut_of, names_in, up_of}
use Rattle.wb_compose_theory_grammar.specs.Pieces.{Piece}
use Rattle.wb_compose_theory_grammar.proofs.ApartLemmas.{AreApartInExtensions, apart, apart_images, host_number, into_host, into_is}
use Rattle.wb_compose_theory_grammar.proofs.ApartLemmas.{not_in_host}
use Rattle.wb_compose_theory_grammar.proofs.ApartLemmas.{not_in_other, not_together, own_number, together_by}
use Rattle.wb_compose_theory_grammar.proofs.BridgeLemmas.{piece_ok}
use Rattle.wb_compose_theory_grammar.proofs.CompositionLemmas.{both_numbering, united_composition}
use Rattle.wb_compose_theory_grammar.proofs.CoverLemmas.{terminal_into}
use Rattle.wb_compose_theory_grammar.proofs.FactLemmas.{W, into_by}
use Rattle.wb_compose_theory_grammar.proofs.SymbolLemmas.{host_terminal, moved}
use Rattle.wb_compose_theory_grammar.proofs.UnionGrammarLemmas.{terminal_below}

-- what an extension may use is of the host with holes and that extension
seen : (k : ℕ) (o : Owner) → Uses (extension k) o → Has (both k) o
seen k o (inl is) = subst (Has (both k)) (sym is) tt
seen k o (inr is) = subst (Has (both k)) (sym is) refl

module _ (g : GrammarView) (extensible : List ℕ) (pieces : List Piece) (is : AreCertified g extensible pieces) where
  -- two terminals of the host
  of_host : (t u : ℕ) → t < g.terminals → u < g.terminals → IsTogether g extensible pieces t u → ¬ AreHostApart g extensible pieces t u
  of_host t u t_less u_less together separate = not_together g extensible pieces is t u together
      (apart g extensible pieces is t u (omega (arith, t_less)) (host_terminal g extensible pieces t t_less).mark (omega (arith, u_less))
      (host_terminal g extensible pieces u u_less).mark at_host at_extension at_envelope)
    where
      at_host : (prefix : List Symbol) (a b : ℕ) → (names_in g extensible pieces no_cut 0).terminal a ≡ t →
          (names_in g extensible pieces no_cut 0).terminal b ≡ u → IsValidTerminal (with_holes_of g extensible) prefix a →
          ¬ IsValidTerminal (with_holes_of g extensible) prefix b
      at_host prefix a b a_is b_is va vb = separate.in_host prefix
          (subst (IsValidTerminal (with_holes_of g extensible) prefix) (host_number g extensible pieces is t a t_less a_is) va)
          (subst (IsValidTerminal (with_holes_of g extensible) prefix) (host_number g extensible pieces is u b u_less b_is) vb)

      at_extension : (k : ℕ) (x : Piece) → slice_get pieces k ≡ Some x → (prefix : List Symbol) (a b : ℕ) →
          (names_in g extensible pieces (cut_of g extensible pieces k x) 0).terminal a ≡ t →
          (names_in g extensible pieces (cut_of g extensible pieces k x) 0).terminal b ≡ u →
          IsValidTerminal (with_holes_of x.grammar extensible) prefix a → ¬ IsValidTerminal (with_holes_of x.grammar extensible) prefix b
      at_extension k x at prefix a b a_is b_is va vb =
          let more = (piece_ok g extensible pieces is.are_pieces k x at).extends.terminals in
          separate.in_extension k x at prefix
          (subst (IsValidTerminal (with_holes_of x.grammar extensible) prefix)
          (own_number g extensible pieces is k x at t a (omega (arith, t_less, more))
          (a_is ∙ sym (into_host g extensible pieces is k t t_less))) va)
          (subst (IsValidTerminal (with_holes_of x.grammar extensible) prefix)
          (own_number g extensible pieces is k x at u b (omega (arith, u_less, more))
          (b_is ∙ sym (into_host g extensible pieces is k u u_less))) vb)

      at_envelope : (k : ℕ) (x : Piece) → slice_get pieces k ≡ Some x → (prefix : List Symbol) (a b : ℕ) →
          IsNewHostKernel (with_holes_of g extensible) (with_holes_of x.grammar extensible) (up_of g x.grammar) prefix →
          (names_in g extensible pieces no_cut 0).terminal a ≡ t → (names_in g extensible pieces no_cut 0).terminal b ≡ u →
          IsValidInEnvelope (with_holes_of g extensible) (host_kernel_of g extensible pieces x prefix) a →
          ¬ IsValidInEnvelope (with_holes_of g extensible) (host_kernel_of g extensible pieces x prefix) b
      at_envelope k x at prefix a b new a_is b_is va vb = separate.in_envelope k x at prefix new
          (subst (IsValidInEnvelope (with_holes_of g extensible) (host_kernel_of g extensible pieces x prefix))
          (host_number g extensible pieces is t a t_less a_is) va)
          (subst (IsValidInEnvelope (with_holes_of g extensible) (host_kernel_of g extensible pieces x prefix))
          (host_number g extensible pieces is u b u_less b_is) vb)

  -- where what phi makes of a terminal of an extension's grammar is valid there, the terminal is
  twin_valid : (k : ℕ) (x : Piece) → slice_get pieces k ≡ Some x → (u b : ℕ) (prefix : List Symbol) → u < x.grammar.terminals →
      (names_in g extensible pieces (cut_of g extensible pieces k x) 0).terminal b ≡
      phi (W g extensible pieces) ((into_by g extensible pieces k).terminal u) →
      IsValidTerminal (with_holes_of x.grammar extensible) prefix b → IsValidTerminal (with_holes_of x.grammar extensible) prefix u
  twin_valid k x at u b prefix less b_is valid =
      let w = W g extensible pieces in
      let composition = united_composition g extensible pieces is in
      let r = names_in g extensible pieces (cut_of g extensible pieces k x) 0 in
      let numbering = both_numbering g extensible pieces is.are_pieces k x at in
      let certified = (composable_apart w (length pieces) (composition_of g extensible pieces) composition).of_extension k
      (slice_get_within pieces k x at) in
      let live = productive_both composition.is_marked k certified in
      let mine = (moved g extensible pieces k x u (piece_ok g extensible pieces is.are_pieces k x at) at less).owner in
      let there = (terminal_renamed numbering prefix b).0 valid in
      let same = sym (phi_phi w composition.is_marked ((into_by g extensible pieces k).terminal u)) ∙ ap (phi w) (sym b_is) in
      let twin = valid_twin composition.is_marked live (map (renamed r) prefix) (r.terminal b) ((into_by g extensible pieces k).terminal u)
      there (seen k (w.symbol_owner (Terminal ((into_by g extensible pieces k).terminal u))) mine) same in
      (terminal_renamed numbering prefix u).1 (subst (IsValidTerminalIn w (both k) (map (renamed r) prefix))
      (terminal_into g extensible pieces is.are_pieces k x at u less) twin)

  -- a terminal of an extension's own, with another of its grammar
  of_extension : (k : ℕ) (x : Piece) → slice_get pieces k ≡ Some x → (t u : ℕ) → IsOwn g extensible pieces x t → u < x.grammar.terminals →
      IsTogether g extensible pieces (in_union g extensible pieces k t) (in_union g extensible pieces k u) →
      ¬ AreApartFor g extensible pieces x t u
  of_extension k x at t u own less together separate =
      not_together g extensible pieces is ((into_by g extensible pieces k).terminal t) ((into_by g extensible pieces k).terminal u)
      (together_by g extensible pieces is (in_union g extensible pieces k t) (in_union g extensible pieces k u)
      ((into_by g extensible pieces k).terminal t)
      ((into_by g extensible pieces k).terminal u) (into_is g extensible pieces is k t) (into_is g extensible pieces is k u) together)
      (apart_images g extensible pieces is ((into_by g extensible pieces k).terminal t) ((into_by g extensible pieces k).terminal u)
      (terminal_below g extensible pieces is.are_pieces k x t at own.within)
      (terminal_below g extensible pieces is.are_pieces k x u at less)
      (λ prefix a b a_is b_is va vb. not_in_host g extensible pieces is k x at t a own (a_is ∙ itself))
      at_extension
      (λ l y there prefix a b new a_is b_is va vb. not_in_host g extensible pieces is k x at t a own (a_is ∙ itself)))
    where
      itself : phi (W g extensible pieces) ((into_by g extensible pieces k).terminal t) ≡ (into_by g extensible pieces k).terminal t
      itself = phi_bare (W g extensible pieces) ((into_by g extensible pieces k).terminal t)
          ((moved g extensible pieces k x t (piece_ok g extensible pieces is.are_pieces k x at) at own.within).mark ∙ own.unmarked)

      at_extension : AreApartInExtensions g extensible pieces is (phi (W g extensible pieces) ((into_by g extensible pieces k).terminal t))
          (phi (W g extensible pieces) ((into_by g extensible pieces k).terminal u))
      at_extension l y there prefix a b a_is b_is va vb = elim (cases_eq k l) [
        | inl same ↦ equal same
        | inr differ ↦ not_in_other g extensible pieces is k l x y at there differ t a own (a_is ∙ itself)
      ]
        where
          equal : k ≡ l → ⊥
          equal same =
              let y_is : y ≡ x = same_Some y x (sym there ∙ (ap (slice_get pieces) (sym same) ∙ at)) in
              let names_are : (names_in g extensible pieces (cut_of g extensible pieces l y) 0).terminal
              ≡ (names_in g extensible pieces (cut_of g extensible pieces k x) 0).terminal =
              λ z. (names_in g extensible pieces (cut_of g extensible pieces (same' z) (y_is z)) 0).terminal in
              let a_own = own_number g extensible pieces is k x at t a own.within (sym (ap (λ f. f a) names_are) ∙ (a_is ∙ itself)) in
              separate prefix
              (subst (λ z. IsValidTerminal (with_holes_of x.grammar extensible) prefix z) a_own
              (subst (λ z. IsValidTerminal (with_holes_of z.grammar extensible) prefix a) y_is va))
              (twin_valid k x at u b prefix less (sym (ap (λ f. f b) names_are) ∙ b_is)
              (subst (λ z. IsValidTerminal (with_holes_of z.grammar extensible) prefix b) y_is vb))
            where
              same' : l ≡ k
              same' = sym same

  -- terminals of two extensions
  of_two : (k l : ℕ) (x y : Piece) → slice_get pieces k ≡ Some x → slice_get pieces l ≡ Some y → k ≢ l → (t u : ℕ) →
      IsOwn g extensible pieces x t → IsOwn g extensible pieces y u →
      ¬ IsTogether g extensible pieces (in_union g extensible pieces k t) (in_union g extensible pieces l u)
  of_two k l x y at there differ t u own other together =
      not_together g extensible pieces is ((into_by g extensible pieces k).terminal t) ((into_by g extensible pieces l).terminal u)
      (together_by g extensible pieces is (in_union g extensible pieces k t) (in_union g extensible pieces l u)
      ((into_by g extensible pieces k).terminal t)
      ((into_by g extensible pieces l).terminal u) (into_is g extensible pieces is k t) (into_is g extensible pieces is l u) together)
      (apart g extensible pieces is ((into_by g extensible pieces k).terminal t) ((into_by g extensible pieces l).terminal u)
      (terminal_below g extensible pieces is.are_pieces k x t at own.within) (kept k x at t own)
      (terminal_below g extensible pieces is.are_pieces l y u there other.within) (kept l y there u other)
      (λ prefix a b a_is b_is va vb. not_in_host g extensible pieces is k x at t a own a_is)
      (λ m z m_at prefix a b a_is b_is va vb. elim (cases_eq k m) [
        | inl same ↦ not_in_other g extensible pieces is l m y z there m_at (λ e. differ (same ∙ sym e)) u b other b_is
        | inr apart_from ↦ not_in_other g extensible pieces is k m x z at m_at apart_from t a own a_is
      ])
      (λ m z m_at prefix a b new a_is b_is va vb. not_in_host g extensible pieces is k x at t a own a_is))
    where
      kept : (m : ℕ) (z : Piece) → slice_get pieces m ≡ Some z → (v : ℕ) → IsOwn g extensible pieces z v →
          (W g extensible pieces).mark ((into_by g extensible pieces m).terminal v) ≡ bare
      kept m z m_at v v_own =
          (moved g extensible pieces m z v (piece_ok g extensible pieces is.are_pieces m z m_at) m_at v_own.within).mark ∙ v_own.unmarked

  -- all three
  pub has_together : HasTogether g extensible pieces
  has_together = record { of_host = of_host; of_extension = of_extension; of_two = of_two }
