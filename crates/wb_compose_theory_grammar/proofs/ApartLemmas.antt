-- When terminals of the union are apart: by the names of numbers in what was certified.
use Rattle.std.proofs.Common.{◌≡◌, ◌≢◌, ◌<◌, ◌≤◌, ◌+◌, ◌-◌, ◌∙◌, ℕ, List, Option, Some, None, length, slice_get, refl, sym, ap, subst}
use Rattle.std.proofs.Common.{inl, inr, arith}
use Rattle.std.proofs.lemmas.Bool.{cases_lt}
use Rattle.wb_base.specs.declared.symbol.Symbol.{Symbol}
use Rattle.wb_base.specs.declared.symbol.Symbol.TheVariants.{Terminal}
use Rattle.wb_base.specs.Grammar.{GrammarView}
use Rattle.wb_grammar_theory.specs.Lookaheads.{IsValidTerminal}
use Rattle.wb_lemmas.proofs.Places.{at_within}
use Rattle.wb_marking_holes.specs.Holes.{with_holes_of}
use Rattle.wb_compose_theory.proofs.ComposedLemmas.{composed_together}
use Rattle.wb_compose_theory.proofs.MarkLemmas.{phi_bare}
use Rattle.wb_compose_theory.specs.Blocks.{lift}
use Rattle.wb_compose_theory.specs.Composed.{AreApartIn, IsImage}
use Rattle.wb_compose_theory.specs.Marks.{Uses, phi}
use Rattle.wb_compose_theory.specs.Numbered.{HostKernel, IsNewHostKernel, IsValidInEnvelope}
use Rattle.wb_compose_theory.specs.Worlds.{alone, bare, extension, host}
use Rattle.wb_compose_theory_grammar.specs.Certificates.{AreCertified}
use Rattle.wb_compose_theory_grammar.specs.Laws.{IsOwn, IsTogether, host_kernel_of, in_union}
use Rattle.wb_compose_theory_grammar.specs.Numberings.{composition_of, cut_of, extended_in, names_in, up_of, whole_cut}
use Rattle.wb_compose_theory_grammar.specs.Cuts.{Cut, no_cut}
use Rattle.wb_compose_theory_grammar.specs.Pieces.{Piece}
use Rattle.wb_compose_theory_grammar.specs.Places.{count_before, total_of}
use Rattle.wb_compose_theory_grammar.specs.UnitedWorlds.{terminal_sizes, united}
use Rattle.wb_compose_theory_grammar.proofs.BridgeLemmas.{piece_ok}
use Rattle.wb_compose_theory_grammar.proofs.CompositionLemmas.{both_numbering, host_numbering, united_composition}
use Rattle.wb_compose_theory_grammar.proofs.CoverLemmas.{piece_covers, terminal_into}
use Rattle.wb_compose_theory_grammar.proofs.CutLemmas.{past_terminal}
use Rattle.wb_compose_theory_grammar.proofs.FactLemmas.{W, into_by}
use Rattle.wb_compose_theory_grammar.proofs.PlaceLemmas.{lift_below, lift_past, spread_below, spread_past}
use Rattle.wb_compose_theory_grammar.proofs.RangeLemmas.{spread_same}
use Rattle.wb_compose_theory_grammar.proofs.SymbolLemmas.{moved}
use Rattle.wb_compose_theory_grammar.proofs.UnionCoverLemmas.{terminal_stays}
use Rattle.wb_compose_theory_grammar.proofs.UnionGrammarLemmas.{terminal_below}

module _ (g : GrammarView) (extensible : List ℕ) (pieces : List Piece) (is : AreCertified g extensible pieces) where
  -- where phi takes a terminal of the union
  image_of : (t : ℕ) → t < (united g extensible pieces).terminals →
      phi (W g extensible pieces) ((names_in g extensible pieces (whole_cut g extensible pieces) (length extensible)).terminal t) ≡
      phi (W g extensible pieces) t
  image_of t less =
      ap (phi (W g extensible pieces))
      (spread_same g.terminals 0 (total_of (terminal_sizes g extensible pieces))
      (total_of (terminal_sizes g extensible pieces) + length extensible) (total_of (terminal_sizes g extensible pieces) + 0) t less ∙
      terminal_stays g extensible pieces is.are_pieces t less)

  -- the number has the name, and the terminal is valid, in the host, in the host with an extension, or in the envelope there
  abbrev pub IsCalled : Cut → ℕ → ℕ → Type 0
  IsCalled cut number name = (names_in g extensible pieces cut 0).terminal number ≡ name

  abbrev pub AreApartInHost : ℕ → ℕ → Type 0
  AreApartInHost t u =
      (prefix : List Symbol) (a b : ℕ) → IsCalled no_cut a t → IsCalled no_cut b u → IsValidTerminal (with_holes_of g extensible) prefix a →
      ¬ IsValidTerminal (with_holes_of g extensible) prefix b

  abbrev pub AreApartInExtensions : ℕ → ℕ → Type 0
  AreApartInExtensions t u =
      (k : ℕ) (x : Piece) → slice_get pieces k ≡ Some x → (prefix : List Symbol) (a b : ℕ) →
      IsCalled (cut_of g extensible pieces k x) a t → IsCalled (cut_of g extensible pieces k x) b u →
      IsValidTerminal (with_holes_of x.grammar extensible) prefix a → ¬ IsValidTerminal (with_holes_of x.grammar extensible) prefix b

  abbrev pub AreApartInEnvelopes : ℕ → ℕ → Type 0
  AreApartInEnvelopes t u =
      (k : ℕ) (x : Piece) → slice_get pieces k ≡ Some x → (prefix : List Symbol) (a b : ℕ) →
      IsNewHostKernel (with_holes_of g extensible) (with_holes_of x.grammar extensible) (up_of g x.grammar) prefix →
      IsCalled no_cut a t → IsCalled no_cut b u →
      IsValidInEnvelope (with_holes_of g extensible) (host_kernel_of g extensible pieces x prefix) a →
      ¬ IsValidInEnvelope (with_holes_of g extensible) (host_kernel_of g extensible pieces x prefix) b

  -- two terminals are apart, if what phi makes of them is so in each grammar by the names of its own numbers
  pub apart_images : (t u : ℕ) → t < (united g extensible pieces).terminals → u < (united g extensible pieces).terminals →
      AreApartInHost (phi (W g extensible pieces) t) (phi (W g extensible pieces) u) →
      AreApartInExtensions (phi (W g extensible pieces) t) (phi (W g extensible pieces) u) →
      AreApartInEnvelopes (phi (W g extensible pieces) t) (phi (W g extensible pieces) u) →
      AreApartIn (W g extensible pieces) (length pieces) (composition_of g extensible pieces) t u
  apart_images t u t_less u_less at_host at_extension at_envelope = record {
    in_host = λ prefix a b a_is b_is. at_host prefix a b (a_is ∙ image_of t t_less) (b_is ∙ image_of u u_less);
    in_extension = λ k less prefix a b. extension_of k (slice_get pieces k) refl less prefix a b;
    in_envelope = λ k less prefix a b. envelope_of k (slice_get pieces k) refl less prefix a b;
  }
    where
      nothing_there : (k : ℕ) → slice_get pieces k ≡ None → k < length pieces → ⊥
      nothing_there k at less = let (x, there) = at_within pieces k less in let bad : None ≡ Some x = sym at ∙ there in cc

      extension_of : (k : ℕ) (o : Option Piece) → slice_get pieces k ≡ o → k < length pieces → (prefix : List Symbol) (a b : ℕ) →
          IsImage (W g extensible pieces) (composition_of g extensible pieces) (extended_in g extensible pieces k o).names t a →
          IsImage (W g extensible pieces) (composition_of g extensible pieces) (extended_in g extensible pieces k o).names u b →
          IsValidTerminal (extended_in g extensible pieces k o).grammar prefix a →
          ¬ IsValidTerminal (extended_in g extensible pieces k o).grammar prefix b
      extension_of k None at less prefix a b a_is b_is = absurd (nothing_there k at less)
      extension_of k (Some x) at less prefix a b a_is b_is =
          at_extension k x at prefix a b (a_is ∙ image_of t t_less) (b_is ∙ image_of u u_less)

      envelope_of : (k : ℕ) (o : Option Piece) → slice_get pieces k ≡ o → k < length pieces → (prefix : List Symbol) (a b : ℕ) →
          IsNewHostKernel (with_holes_of g extensible) (extended_in g extensible pieces k o).grammar
          (extended_in g extensible pieces k o).up prefix →
          IsImage (W g extensible pieces) (composition_of g extensible pieces) (names_in g extensible pieces no_cut 0) t a →
          IsImage (W g extensible pieces) (composition_of g extensible pieces) (names_in g extensible pieces no_cut 0) u b →
          IsValidInEnvelope (with_holes_of g extensible)
          (HostKernel (extended_in g extensible pieces k o).grammar (extended_in g extensible pieces k o).up prefix) a →
          ¬ IsValidInEnvelope (with_holes_of g extensible)
          (HostKernel (extended_in g extensible pieces k o).grammar (extended_in g extensible pieces k o).up prefix) b
      envelope_of k None at less prefix a b new a_is b_is = absurd (nothing_there k at less)
      envelope_of k (Some x) at less prefix a b new a_is b_is =
          at_envelope k x at prefix a b new (a_is ∙ image_of t t_less) (b_is ∙ image_of u u_less)

  -- two terminals that no mark is are apart, if they are so in each grammar by the names of its own numbers
  pub apart : (t u : ℕ) → t < (united g extensible pieces).terminals → (W g extensible pieces).mark t ≡ bare →
      u < (united g extensible pieces).terminals → (W g extensible pieces).mark u ≡ bare → AreApartInHost t u → AreApartInExtensions t u →
      AreApartInEnvelopes t u → AreApartIn (W g extensible pieces) (length pieces) (composition_of g extensible pieces) t u
  apart t u t_less t_mark u_less u_mark at_host at_extension at_envelope =
      let t_is = phi_bare (W g extensible pieces) t t_mark in
      let u_is = phi_bare (W g extensible pieces) u u_mark in
      apart_images t u t_less u_less (λ prefix a b a_is b_is. at_host prefix a b (a_is ∙ t_is) (b_is ∙ u_is))
      (λ k x at prefix a b a_is b_is. at_extension k x at prefix a b (a_is ∙ t_is) (b_is ∙ u_is))
      (λ k x at prefix a b new a_is b_is. at_envelope k x at prefix a b new (a_is ∙ t_is) (b_is ∙ u_is))

  -- terminals that are apart aren't valid together
  pub not_together : (t u : ℕ) → IsTogether g extensible pieces t u →
      ¬ AreApartIn (W g extensible pieces) (length pieces) (composition_of g extensible pieces) t u
  not_together t u both = composed_together (W g extensible pieces) (length pieces) (composition_of g extensible pieces)
      (united_composition g extensible pieces is) both.prefix t u both.left both.right

  -- a terminal of the host has its own number in each grammar
  pub host_number : (t a : ℕ) → t < g.terminals → (names_in g extensible pieces no_cut 0).terminal a ≡ t → a ≡ t
  host_number t a less a_is = (host_numbering g extensible pieces is.are_pieces).once.terminal a t
      (a_is ∙ sym (spread_below g.terminals 0 0 (total_of (terminal_sizes g extensible pieces) + 0) t less))

  -- a terminal of an extension's grammar has its own number there
  pub own_number : (k : ℕ) (x : Piece) → slice_get pieces k ≡ Some x → (t a : ℕ) → t < x.grammar.terminals →
      (names_in g extensible pieces (cut_of g extensible pieces k x) 0).terminal a ≡ (into_by g extensible pieces k).terminal t → a ≡ t
  own_number k x at t a less a_is = (both_numbering g extensible pieces is.are_pieces k x at).once.terminal a t
      (a_is ∙ terminal_into g extensible pieces is.are_pieces k x at t less)

  -- a terminal of the host keeps its number in the union
  pub into_host : (k t : ℕ) → t < g.terminals → (into_by g extensible pieces k).terminal t ≡ t
  into_host k t less = lift_below g.terminals (0 + count_before (terminal_sizes g extensible pieces) k) t less

  -- an extension's own terminal has no number in the host
  pub not_in_host : (k : ℕ) (x : Piece) → slice_get pieces k ≡ Some x → (t a : ℕ) → IsOwn g extensible pieces x t →
      (names_in g extensible pieces no_cut 0).terminal a ≡ (into_by g extensible pieces k).terminal t → ⊥
  not_in_host k x at t a own a_is = elim (cases_lt a g.terminals) [ inl near ↦ low near | inr far ↦ high far ]
    where
      past : g.terminals ≤ (into_by g extensible pieces k).terminal t
      past =
          let le = own.own in
          let up = lift_past g.terminals (0 + count_before (terminal_sizes g extensible pieces) k) t le in
          omega (arith, le, up)

      low : a < g.terminals → ⊥
      low near =
          let here = spread_below g.terminals 0 0 (total_of (terminal_sizes g extensible pieces) + 0) a near in
          let over = past in
          omega (arith, here, a_is, near, over)

      high : g.terminals ≤ a → ⊥
      high far =
          let here = spread_past g.terminals 0 0 (total_of (terminal_sizes g extensible pieces) + 0) a (omega (arith, far)) in
          let less = terminal_below g extensible pieces is.are_pieces k x t at own.within in
          omega (arith, here, a_is, far, less)

  -- nor in another extension's grammar
  pub not_in_other : (k l : ℕ) (x y : Piece) → slice_get pieces k ≡ Some x → slice_get pieces l ≡ Some y → k ≢ l → (t a : ℕ) →
      IsOwn g extensible pieces x t →
      (names_in g extensible pieces (cut_of g extensible pieces l y) 0).terminal a ≡ (into_by g extensible pieces k).terminal t → ⊥
  not_in_other k l x y at there differ t a own a_is =
      elim (cases_lt a y.grammar.terminals) [ inl less ↦ within less | inr far ↦ beyond far ]
    where
      mine : (W g extensible pieces).symbol_owner (Terminal ((into_by g extensible pieces k).terminal t)) ≡ extension k
      mine = (moved g extensible pieces k x t (piece_ok g extensible pieces is.are_pieces k x at) at own.within).own own.own

      other : Uses (extension l) ((W g extensible pieces).symbol_owner (Terminal ((into_by g extensible pieces k).terminal t))) → ⊥
      other (inl e) = let f : extension k ≡ host = sym mine ∙ e in cc
      other (inr e) = let f : extension k ≡ extension l = sym mine ∙ e in let same : k ≡ l = cc in differ same

      within : a < y.grammar.terminals → ⊥
      within less = other (subst (λ z. Uses (extension l) ((W g extensible pieces).symbol_owner (Terminal z)))
          (terminal_into g extensible pieces is.are_pieces l y there a less ∙ a_is)
          (moved g extensible pieces l y a (piece_ok g extensible pieces is.are_pieces l y there) there less).owner)

      beyond : y.grammar.terminals ≤ a → ⊥
      beyond far =
          let back : y.grammar.terminals + (a - y.grammar.terminals) ≡ a = omega (arith, far) in
          let here = past_terminal g extensible pieces is.are_pieces y.grammar (alone l) (cut_of g extensible pieces l y)
          (piece_covers g extensible pieces is.are_pieces l y there) (a - y.grammar.terminals) in
          let place : (names_in g extensible pieces (cut_of g extensible pieces l y) 0).terminal a
          ≡ (united g extensible pieces).terminals + (a - y.grammar.terminals) =
          ap (names_in g extensible pieces (cut_of g extensible pieces l y) 0).terminal (sym back) ∙ here in
          let less = terminal_below g extensible pieces is.are_pieces k x t at own.within in
          omega (arith, place, a_is, less)

  -- what an extension's terminals become
  pub into_is : (k t : ℕ) → in_union g extensible pieces k t ≡ (into_by g extensible pieces k).terminal t
  into_is k t = let same : count_before (terminal_sizes g extensible pieces) k ≡ 0 + count_before (terminal_sizes g extensible pieces) k =
      omega arith in ap (λ z. lift g.terminals z t) same

  -- equal terminals
  pub together_by : (t u a b : ℕ) → t ≡ a → u ≡ b → IsTogether g extensible pieces t u → IsTogether g extensible pieces a b
  together_by t u a b t_is u_is both = subst (λ z. IsTogether g extensible pieces z b) t_is
      (subst (λ z. IsTogether g extensible pieces t z) u_is both)
