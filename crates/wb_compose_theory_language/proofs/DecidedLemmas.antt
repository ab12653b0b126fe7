-- In the language of the union one form beats the other, and there are no rings; and each form has its expression.
use Rattle.std.proofs.Common.{◌≡◌, ◌<◌, ◌+◌, ◌-◌, ◌∙◌, ◌++◌, [], ℕ, List, None, Some, length, map, slice_get, sym, ap, subst}
use Rattle.std.proofs.Common.{inl, inr, arith}
use Rattle.std.specs.Prelude.{slice_index_or}
use Rattle.std.specs.List.{range_with_len}
use Rattle.std.proofs.lemmas.List.FromFn.{get_or-range_with_len, length-range_with_len}
use Rattle.std.proofs.lemmas.Option.{get_or_from_slice_get, slice_get_within}
use Rattle.wb_automata.specs.Automata.{IsMatch}
use Rattle.wb_base.specs.declared.symbol.Symbol.{Symbol}
use Rattle.wb_base.specs.Grammar.{GrammarView}
use Rattle.wb_determinism_contexts.specs.Considered.{LexiconView}
use Rattle.wb_grammar_theory.specs.Lookaheads.{IsValidTerminal}
use Rattle.wb_lemmas.proofs.Places.{at_append, at_once, at_within}
use Rattle.wb_scan_theory.specs.declared.form.Form.{Form}
use Rattle.wb_scan_theory.specs.Languages.{LanguageView, bare, forms_of}
use Rattle.wb_scan_theory.specs.Winners.{HoldsOne, IsConsideredForm, layout, valid}
use Rattle.wb_scan_theory.proofs.BareLemmas.{forms_count}
use Rattle.wb_compose_theory_grammar.specs.Certificates.{AreCertified}
use Rattle.wb_compose_theory_grammar.specs.UnitedWorlds.{united}
use Rattle.wb_compose_theory_grammar.proofs.ApartLemmas.{into_is}
use Rattle.wb_compose_theory_grammar.proofs.FactLemmas.{map_at}
use Rattle.wb_compose_theory_grammar.proofs.UnionGrammarLemmas.{terminal_below}
use Rattle.wb_compose_theory_layout.specs.Extensions.{HoldsExtension}
use Rattle.wb_compose_theory_language.specs.Written.{IsOwnLayoutRow, WrittenPiece, pieces_of}
use Rattle.wb_compose_theory_language.specs.Apart.{AreWrittenApart}
use Rattle.wb_compose_theory_language.specs.Forms.{IsForm, IsMarkerOf, kept, of_extension, of_host, prefix_of, prefixed}
use Rattle.wb_compose_theory_language.specs.Languages.{IsTextOf, IsUnitedLanguage, span_of}
use Rattle.wb_compose_theory_language.specs.Rows.{Reads, layout_count, piece_row}
use Rattle.wb_compose_theory_language.proofs.BareLemmas.{marker_own}
use Rattle.wb_compose_theory_language.proofs.PairLemmas.{BareRow}
use Rattle.wb_compose_theory_language.proofs.PairLemmas as row
use Rattle.wb_compose_theory_language.proofs.LayoutLemmas.{Layout, hosts, layout_of, owned}
use Rattle.wb_compose_theory_language.proofs.RowLemmas.{piece_there}

-- what a range has at a place
pub range_at : (a n j t : ℕ) → slice_get (range_with_len a n) j ≡ Some t → (t ≡ a + j) × (j < n)
range_at a n j t at =
    let within = slice_get_within (range_with_len a n) j t at in
    let len = length-range_with_len a n in
    let less : j < n = omega (arith, within, len) in
    (sym (get_or_from_slice_get (range_with_len a n) j t 0 at) ∙ get_or-range_with_len a n j 0 less, less)

module _ (host : GrammarView) (extensible : List ℕ) (own : LexiconView) (written : List WrittenPiece) (l : LanguageView)
    (certified : AreCertified host extensible (pieces_of written)) (apart : AreWrittenApart host extensible own written)
    (is : IsUnitedLanguage host extensible own written l) where
  -- how many terminals the union has
  abbrev pub count : ℕ
  count = (united host extensible (pieces_of written)).terminals

  -- forms are of the union's terminals
  pub form_below : (form : Form) → IsForm host extensible own written form → form.terminal < count
  form_below form (of_host less bare_is) = omega (arith, less)
  form_below form (of_extension k x t at mine t_is bare_is) =
      let there = piece_there host extensible own written certified.are_pieces k x at in
      let less = terminal_below host extensible (pieces_of written) certified.are_pieces k x.piece t there mine.within in
      subst (λ z. z < count) (sym (t_is ∙ into_is host extensible (pieces_of written) certified k t)) less
  form_below form (prefixed k x marker e) = marked k x marker
    where
      marked : (k' : ℕ) (x' : WrittenPiece) → IsMarkerOf host extensible own written k' x' form.terminal → form.terminal < count
      marked k' x' marker' =
          let there = piece_there host extensible own written certified.are_pieces k' x' marker'.listed in
          let mine = marker_own host extensible own written certified apart [] k' x' marker'.listed marker'.terminal marker'.marker in
          let less = terminal_below host extensible (pieces_of written) certified.are_pieces k' x'.piece marker'.terminal there mine.1 in
          subst (λ z. z < count) (sym (marker'.is ∙ into_is host extensible (pieces_of written) certified k' marker'.terminal)) less
  form_below form (kept k x marker out e) = marked
    where
      marked : form.terminal < count
      marked =
          let there = piece_there host extensible own written certified.are_pieces k x marker.listed in
          let mine = marker_own host extensible own written certified apart [] k x marker.listed marker.terminal marker.marker in
          let less = terminal_below host extensible (pieces_of written) certified.are_pieces k x.piece marker.terminal there mine.1 in
          subst (λ z. z < count) (sym (marker.is ∙ into_is host extensible (pieces_of written) certified k marker.terminal)) less

  -- layout by place
  pub layout_at : (j t : ℕ) → slice_get l.layout j ≡ Some t →
      (t ≡ count + j) × (j < layout_count host extensible own written)
  layout_at j t at = range_at count (layout_count host extensible own written) j t (subst (λ ts. slice_get ts j ≡ Some t) is.layout at)

  -- a place is that of a form of a terminal, or of layout
  pub data AtPlace (place : ℕ) (form : Form) : Type 0 where
    of_form : slice_get l.forms place ≡ Some form → AtPlace place form
    of_layout : (j t : ℕ) → place ≡ length l.forms + j → slice_get l.layout j ≡ Some t → form ≡ bare t → AtPlace place form

  pub at_place : (place : ℕ) (form : Form) → slice_get (forms_of l) place ≡ Some form → AtPlace place form
  at_place place form at = elim (at_append l.forms (map bare l.layout) form place at) [
    | inl here ↦ of_form here
    | inr (j, place_is, there) ↦ (let (t, t_at, form_is) = map_at bare l.layout j form there in of_layout j t place_is t_at form_is)
  ]

  -- a form is at one place
  pub one_place : (place other : ℕ) (form : Form) → slice_get (forms_of l) place ≡ Some form → slice_get (forms_of l) other ≡ Some form →
      place ≡ other
  one_place place other form at to = go (at_place place form at) (at_place other form to)
    where
      below : (p : ℕ) → slice_get l.forms p ≡ Some form → form.terminal < count
      below p here = form_below form (is.forms.each p form here)

      past : (j t : ℕ) → slice_get l.layout j ≡ Some t → form ≡ bare t → form.terminal ≡ count + j
      past j t t_at form_is = ap (λ (z : Form). z.terminal) form_is ∙ (layout_at j t t_at).0

      go : AtPlace place form → AtPlace other form → place ≡ other
      go (of_form here) (of_form there) = is.forms.once form place other here there
      go (of_form here) (of_layout j t place_is t_at form_is) =
          let a = below place here in let b = past j t t_at form_is in absurd (omega (arith, a, b))
      go (of_layout j t place_is t_at form_is) (of_form there) =
          let a = below other there in let b = past j t t_at form_is in absurd (omega (arith, a, b))
      go (of_layout i s place_is s_at form_is) (of_layout j t other_is t_at also_is) =
          let a = past i s s_at form_is in let b = past j t t_at also_is in omega (arith, a, b, place_is, other_is)

  -- the form of a place that has an expression
  pub form_at : (place : ℕ) → place < length l.expressions → (form : Form) × (slice_get (forms_of l) place ≡ Some form)
  form_at place less =
      let a = is.expressions_len in
      let b = forms_count l in
      at_within (forms_of l) place (omega (arith, less, a, b))

  -- where an extension's own layout is considered, the kernel holds an item of the extension
  holds_at : (prefix : List Symbol) (place j k : ℕ) (x : WrittenPiece) (t : ℕ) → place ≡ length l.forms + j → slice_get written k ≡ Some x →
      IsOwnLayoutRow host own x t → slice_get l.layout j ≡ Some (piece_row host extensible own written k x t) →
      IsConsideredForm l prefix place → HoldsExtension host extensible (pieces_of written) k x.piece prefix
  holds_at prefix place j k x t place_is x_at mine t_at (valid other there v) =
      let a = slice_get_within l.forms place other there in absurd (omega (arith, a, place_is))
  holds_at prefix place j k x t place_is x_at mine t_at (layout here holds) =
      let at_j : place - length l.forms ≡ j = omega (arith, place_is) in
      let span_is = is.spans.of_extension j k x t x_at mine t_at in
      subst (λ g. HoldsOne g prefix (Some (span_of host extensible own written k x))) is.grammar
      (subst (HoldsOne l.grammar prefix) (ap (λ i. slice_index_or l.spans i None) at_j ∙ span_is) holds)

  -- layout that is considered at the prefix
  row_at : (prefix : List Symbol) (place j u : ℕ) → place ≡ length l.forms + j → slice_get l.layout j ≡ Some u →
      IsConsideredForm l prefix place → Layout host extensible own written certified.are_pieces (count + j) →
      BareRow host extensible own written certified apart prefix u
  row_at prefix place j u place_is u_at considered (hosts t t_is number_is) = row.of_layout t t_is ((layout_at j u u_at).0 ∙ number_is)
  row_at prefix place j u place_is u_at considered (owned k x t x_at mine number_is) =
      let u_is = (layout_at j u u_at).0 ∙ number_is in
      row.of_own_layout k x t x_at mine u_is (holds_at prefix place j k x t place_is x_at mine
      (u_at ∙ ap Some u_is) considered)

  -- a form that is considered at the prefix and matches the text: a bare one, or a marker's with its prefix
  pub data Kind (prefix : List Symbol) (form : Form) (text : List ℕ) : Type 0 where
    of_bare : form.prefix ≡ [] → BareRow host extensible own written certified apart prefix form.terminal →
        Reads host extensible own written form.terminal text → Kind prefix form text
    of_prefixed : (k : ℕ) (x : WrittenPiece) (lexeme : List ℕ) → IsMarkerOf host extensible own written k x form.terminal →
        form.prefix ≡ prefix_of x → Reads host extensible own written form.terminal lexeme → text ≡ prefix_of x ++ lexeme →
        Kind prefix form text

  pub kind_at : (prefix : List Symbol) (place : ℕ) (form : Form) (text : List ℕ) → slice_get (forms_of l) place ≡ Some form →
      IsConsideredForm l prefix place → IsMatch l.expressions place text → Kind prefix form text
  kind_at prefix place form text at considered matches = go (at_place place form at) ((is.expressions place form at text).0 matches)
    where
      valid_here : slice_get l.forms place ≡ Some form → IsConsideredForm l prefix place →
          IsValidTerminal (united host extensible (pieces_of written)) prefix form.terminal
      valid_here here (valid other there v) =
          subst (λ g. IsValidTerminal g prefix form.terminal) is.grammar
          (subst (λ (z : Form). IsValidTerminal l.grammar prefix z.terminal) (at_once l.forms place other form there here) v)
      valid_here here (layout (past, under) holds) = let a = slice_get_within l.forms place form here in absurd (omega (arith, a, past))

      bare_text : form.prefix ≡ [] → (t : IsTextOf host extensible own written form text) →
          Reads host extensible own written form.terminal text
      bare_text e t = subst (Reads host extensible own written form.terminal) (sym (t.is ∙ ap (λ p. p ++ t.lexeme) e)) t.reads

      form_kind : IsForm host extensible own written form → slice_get l.forms place ≡ Some form →
          IsTextOf host extensible own written form text → Kind prefix form text
      form_kind (prefixed k x marker e) here t = of_prefixed k x t.lexeme marker e t.reads (t.is ∙ ap (λ p. p ++ t.lexeme) e)
      form_kind (kept k x marker out e) here t =
          of_bare e (row.of_marker k x marker out (valid_here here considered)) (bare_text e t)
      form_kind (of_host less e) here t = of_bare e (row.of_host less (valid_here here considered)) (bare_text e t)
      form_kind (of_extension k x u u_at mine u_is e) here t =
          of_bare e (row.of_extension k x u u_at mine u_is (valid_here here considered)) (bare_text e t)

      go : AtPlace place form → IsTextOf host extensible own written form text → Kind prefix form text
      go (of_form here) t = form_kind (is.forms.each place form here) here t
      go (of_layout j u place_is u_at form_is) t =
          let bare_is = ap (λ (z : Form). z.prefix) form_is in
          of_bare bare_is (subst (BareRow host extensible own written certified apart prefix) (sym (ap (λ (z : Form). z.terminal) form_is))
          (row_at prefix place j u place_is u_at considered
          (layout_of host extensible own written certified.are_pieces j (layout_at j u u_at).1))) (bare_text bare_is t)
