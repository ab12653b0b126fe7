-- The languages of unions of the same extensions in two orders are one, in other numbers.
use Rattle.std.proofs.Common.{◌≡◌, ◌<◌, ◌≤◌, ◌+◌, ◌-◌, ◌∙◌, ℕ, List, Option, None, Some, length, map, slice_get, sym, ap, subst, inl}
use Rattle.std.proofs.Common.{inr, arith}
use Rattle.std.specs.Prelude.{◌↔◌, slice_index_or}
use Rattle.std.specs.List.{range_with_len}
use Rattle.std.proofs.lemmas.List.FromFn.{get_or-range_with_len, length-range_with_len}
use Rattle.std.proofs.lemmas.Option.{slice_get-get_or, slice_get_within}
use Rattle.wb_automata.specs.Automata.{IsMatch}
use Rattle.wb_base.specs.Grammar.{GrammarView}
use Rattle.wb_determinism_contexts.specs.Considered.{LexiconView}
use Rattle.wb_scan_theory.specs.declared.form.Form.{Form}
use Rattle.wb_scan_theory.specs.Facts.{IsLanguage}
use Rattle.wb_scan_theory.specs.Languages.{LanguageView, bare, forms_of, IsLayout, span_at}
use Rattle.wb_scan_theory.proofs.BareLemmas.{forms_count}
use Rattle.wb_lemmas.proofs.Places.{append_after, append_keeps, at_append, at_within}
use Rattle.wb_compose_theory.specs.Renamings.{Renaming}
use Rattle.wb_compose_theory_grammar.specs.Pieces.{ArePieces}
use Rattle.wb_compose_theory_grammar.specs.UnitedWorlds.{united}
use Rattle.wb_compose_theory_grammar.specs.Unions.{added_productions}
use Rattle.wb_compose_theory_grammar.proofs.FactLemmas.{at_map, map_at, size_at}
use Rattle.wb_compose_theory_language.specs.Languages.{IsUnitedLanguage, span_of}
use Rattle.wb_compose_theory_language.specs.Rows.{host_row, layout_count, piece_row}
use Rattle.wb_compose_theory_language.specs.Written.{WrittenPiece, host_layouts, own_layouts, pieces_of}
use Rattle.wb_compose_theory_language.proofs.DecidedLemmas.{range_at}
use Rattle.wb_compose_theory_language.proofs.LayoutLemmas.{Layout, hosts, layout_of, owned}
use Rattle.wb_compose_theory_order.specs.Grammars.{GrammarLeadsTo}
use Rattle.wb_compose_theory_order.specs.Languages.{IsNumberedOn, IsPreferred, IsSameBy, LanguageLeadsTo, SpanLeadsTo, among, everywhere}
use Rattle.wb_compose_theory_order.specs.Languages.{renamed_form}
use Rattle.wb_compose_theory_order.specs.Laws.{HasSameAnswers}
use Rattle.wb_compose_theory_order.proofs.FactLemmas.{language_there}
use Rattle.wb_compose_theory_order.proofs.FormLemmas.{same_language_back}
use Rattle.wb_compose_theory_order.proofs.TextLemmas.{same_answers}
use Rattle.wb_compose_theory_order.specs.Orders.{IsReordering, number_to}
use Rattle.wb_compose_theory_order.specs.Unions.{names_to}
use Rattle.wb_compose_theory_order.proofs.NumberLemmas.{number_back, reordering_back, reordering_map, to_below, to_extension}
use Rattle.wb_compose_theory_order.proofs.PlaceLemmas.{Spot, spot, spot_back}
use Rattle.wb_compose_theory_order.proofs.UnionFormLemmas.{form_is, form_there, host_to, layout_row, layout_to, moved_form, piece_to}
use Rattle.wb_compose_theory_order.proofs.UnionFormLemmas.{pieces_reordered, pieces_there, prefers_there, row_to, text_there}
use Rattle.wb_compose_theory_order.proofs.UnionLemmas.{reordered_back, sizes_reordered, union_leads}

-- what a range has at a place within
at_range : (a n j : ℕ) → j < n → slice_get (range_with_len a n) j ≡ Some (a + j)
at_range a n j less =
    let len = length-range_with_len a n in
    slice_get-get_or (range_with_len a n) j 0 (omega (arith, less, len)) ∙ ap Some (get_or-range_with_len a n j 0 less)

module _ (host : GrammarView) (extensible : List ℕ) (own : LexiconView) (written others : List WrittenPiece) (to from : ℕ → ℕ)
    (ok : ArePieces host extensible (pieces_of written)) (re : IsReordering to from written others) (l m : LanguageView)
    (is : IsUnitedLanguage host extensible own written l) (also : IsUnitedLanguage host extensible own others m) where
  abbrev r : Renaming
  r = names_to host extensible written others to

  -- where layout is there
  abbrev past : ℕ → ℕ
  past = layout_to host extensible own written others to from ok re

  abbrev moved : Form → Form
  moved = moved_form host extensible own written others to from ok re

  -- where forms are there
  pub spots : (p : ℕ) → Spot (renamed_form r) past l.forms m.forms p
  spots = spot (renamed_form r) past l.forms m.forms
      (λ p f at. also.forms.every (renamed_form r f)
      (form_there host extensible own written others to from ok re f (is.forms.each p f at)))

  layout_len : length l.layout ≡ layout_count host extensible own written
  layout_len = ap length is.layout ∙
      length-range_with_len (united host extensible (pieces_of written)).terminals (layout_count host extensible own written)

  other_layout_len : length m.layout ≡ layout_count host extensible own others
  other_layout_len = ap length also.layout ∙
      length-range_with_len (united host extensible (pieces_of others)).terminals (layout_count host extensible own others)

  past_less : (j : ℕ) → j < layout_count host extensible own written → past j < layout_count host extensible own others
  past_less j less = to_below (host_layouts host own) (reordering_map (own_layouts host own) re) j less

  layout_there : (p : ℕ) → IsLayout l p → IsLayout m (spots p).place
  layout_there p (low, high) =
      let here = (spots p).behind low in
      let len = layout_len in
      let other_len = other_layout_len in
      let less = past_less (p - length l.forms) (omega (arith, low, high, len)) in
      (omega (arith, here), omega (arith, here, less, other_len))

  -- layout by its place
  layout_is : (j : ℕ) → j < layout_count host extensible own written →
      slice_get l.layout j ≡ Some ((united host extensible (pieces_of written)).terminals + j)
  layout_is j less = ap (λ z. slice_get z j) is.layout ∙
      at_range (united host extensible (pieces_of written)).terminals (layout_count host extensible own written) j less

  other_layout_is : (j : ℕ) → j < layout_count host extensible own others →
      slice_get m.layout j ≡ Some ((united host extensible (pieces_of others)).terminals + j)
  other_layout_is j less = ap (λ z. slice_get z j) also.layout ∙
      at_range (united host extensible (pieces_of others)).terminals (layout_count host extensible own others) j less

  -- the form of layout
  layout_form : (p j : ℕ) (f : Form) → p ≡ length l.forms + j → slice_get (map bare l.layout) j ≡ Some f →
      slice_get (forms_of m) (spots p).place ≡ Some (moved f)
  layout_form p j f p_is at =
      let (t, t_at, f_is) = map_at bare l.layout j f at in
      let (t_is, less) = range_at (united host extensible (pieces_of written)).terminals (layout_count host extensible own written) j t
      (sym (ap (λ z. slice_get z j) is.layout) ∙ t_at) in
      let number : (united host extensible (pieces_of others)).terminals + past j
      ≡ row_to host extensible own written others to from ok re t =
      sym (ap (row_to host extensible own written others to from ok re) t_is ∙
      layout_row host extensible own written others to from ok re j) in
      let here = (spots p).behind (omega (arith, p_is)) in
      let at_j : p - length l.forms ≡ j = omega (arith, p_is) in
      let place_is : (spots p).place ≡ length m.forms + past j = here ∙ ap (λ z. length m.forms + past z) at_j in
      ap (slice_get (forms_of m)) place_is ∙
      (append_after m.forms (map bare m.layout) (past j) ∙
      (at_map bare m.layout (past j) ((united host extensible (pieces_of others)).terminals + past j)
      (other_layout_is (past j) (past_less j less)) ∙
      (ap (λ z. Some (bare z)) number ∙ ap (λ z. Some (moved z)) (sym f_is))))

  -- the form at a place
  all_forms : (p : ℕ) (f : Form) → slice_get (forms_of l) p ≡ Some f → slice_get (forms_of m) (spots p).place ≡ Some (moved f)
  all_forms p f at = elim (at_append l.forms (map bare l.layout) f p at) [
    | inl mine ↦
        append_keeps m.forms (map bare m.layout) (spots p).place (renamed_form r f) ((spots p).element f mine)
        ∙ ap Some (form_is host extensible own written others to from ok re f (is.forms.each p f mine))
    | inr more ↦ layout_form p more.0 f more.1 more.2
  ]

  -- the productions by which layout is considered
  spans_there : (p : ℕ) → IsLayout l p → SpanLeadsTo r (span_at l p) (span_at m (spots p).place)
  spans_there p (low, high) = go (layout_of host extensible own written ok j less)
    where
      j : ℕ
      j = p - length l.forms

      less : j < layout_count host extensible own written
      less = let len = layout_len in omega (arith, low, high, len)

      place_is : (spots p).place - length m.forms ≡ past j
      place_is = let here = (spots p).behind low in omega (arith, here)

      by : (span other : Option (ℕ × ℕ)) → span_at l p ≡ span → slice_index_or m.spans (past j) None ≡ other → SpanLeadsTo r span other →
          SpanLeadsTo r (span_at l p) (span_at m (spots p).place)
      by span other span_is other_is leads =
          subst (λ z. SpanLeadsTo r z (span_at m (spots p).place)) (sym span_is)
          (subst (SpanLeadsTo r span) (sym (ap (λ i. slice_index_or m.spans i None) place_is ∙ other_is)) leads)

      there : (number number' : ℕ) → (united host extensible (pieces_of written)).terminals + j ≡ number →
          row_to host extensible own written others to from ok re number ≡ number' → slice_get m.layout (past j) ≡ Some number'
      there number number' number_is to_is =
          other_layout_is (past j) (past_less j less) ∙
          ap Some (sym (layout_row host extensible own written others to from ok re j) ∙
          (ap (row_to host extensible own written others to from ok re) number_is ∙ to_is))

      go : Layout host extensible own written ok ((united host extensible (pieces_of written)).terminals + j) →
          SpanLeadsTo r (span_at l p) (span_at m (spots p).place)
      go (hosts t t_is number_is) =
          by None None (is.spans.of_host j t t_is (layout_is j less ∙ ap Some number_is))
          (also.spans.of_host (past j) t t_is
          (there (host_row host extensible own written t) (host_row host extensible own others t) number_is
          (host_to host extensible own written others to from ok re t))) everywhere
      go (owned k x t x_at mine number_is) =
          by (Some (span_of host extensible own written k x)) (Some (span_of host extensible own others (to k) x))
          (is.spans.of_extension j k x t x_at mine (layout_is j less ∙ ap Some number_is))
          (also.spans.of_extension (past j) (to k) x t (re.there k x x_at) mine
          (there (piece_row host extensible own written k x t) (piece_row host extensible own others (to k) x t) number_is
          (piece_to host extensible own written others to from ok re k x t x_at)))
          (among (span_of host extensible own written k x) (span_of host extensible own others (to k) x) (inside k x x_at))
        where
          inside : (k : ℕ) (x : WrittenPiece) → slice_get written k ≡ Some x → (q : ℕ) →
              (span_of host extensible own written k x).0 ≤ q → q < (span_of host extensible own written k x).1 →
              ((span_of host extensible own others (to k) x).0 ≤ r.production q)
              × (r.production q < (span_of host extensible own others (to k) x).1)
          inside k x x_at q from_low to_high =
              let size = size_at host extensible (pieces_of written) (added_productions host) k x.piece
              (at_map (λ (y : WrittenPiece). y.piece) written k x x_at) in
              let q_is = to_extension (length host.productions)
              (sizes_reordered host extensible (added_productions host) (pieces_reordered re)) k (added_productions host x.piece.grammar)
              (q - (span_of host extensible own written k x).0) q size (omega (arith, from_low, to_high)) (omega (arith, from_low)) in
              (omega (arith, q_is), omega (arith, q_is, from_low, to_high))

  matches_there : (p : ℕ) (text : List ℕ) → IsMatch l.expressions p text → IsMatch m.expressions (spots p).place text
  matches_there p text matches =
      let within = slice_get_within l.expressions p matches.tree matches.at in
      let len = is.expressions_len in
      let count = forms_count l in
      let (f, at) = at_within (forms_of l) p (omega (arith, within, len, count)) in
      (also.expressions (spots p).place (moved f) (all_forms p f at) text).1
      (text_there host extensible own written others to from ok re f text ((is.expressions p f at text).0 matches))

  preferred_there : (p q : ℕ) → IsPreferred l p q → IsPreferred m (spots p).place (spots q).place
  preferred_there p q h = record {
    one = moved h.one;
    two = moved h.two;
    at = all_forms p h.one h.at;
    to = all_forms q h.two h.to;
    preferred = (also.preferences (moved h.one).terminal (moved h.two).terminal).1
        (prefers_there host extensible own written others to from ok re h.one.terminal h.two.terminal
        ((is.preferences h.one.terminal h.two.terminal).0 h.preferred));
  }

  -- the one language leads to the other
  pub language_leads : LanguageLeadsTo (record { names = r; place = λ p. (spots p).place }) l m
  language_leads = record {
    grammar = subst (λ z. GrammarLeadsTo r z m.grammar) (sym is.grammar)
        (subst (GrammarLeadsTo r (united host extensible (pieces_of written))) (sym also.grammar)
        (union_leads host extensible (pieces_of written) (pieces_of others) to from ok (pieces_reordered re)));
    forms = λ p f at. (spots p).element f at;
    layout = layout_there;
    spans = spans_there;
    expressions = matches_there;
    preferences = preferred_there;
  }

-- layout of the language of a union is numbered on
numbered : (host : GrammarView) (extensible : List ℕ) (own : LexiconView) (written : List WrittenPiece) (l : LanguageView) →
    IsUnitedLanguage host extensible own written l → IsNumberedOn l
numbered host extensible own written l is = record {
  layout = λ k t at.
      (range_at (united host extensible (pieces_of written)).terminals (layout_count host extensible own written) k t
      (sym (ap (λ z. slice_get z k) is.layout) ∙ at)).0 ∙ ap (λ (z : GrammarView). z.terminals + k) (sym is.grammar);
  expressions = is.expressions_len;
}

-- forms there and back
form_back : (host : GrammarView) (extensible : List ℕ) {written others : List WrittenPiece} {to from : ℕ → ℕ} →
    IsReordering to from written others → (f : Form) →
    renamed_form (names_to host extensible others written from)
    (renamed_form (names_to host extensible written others to) f) ≡ f
form_back host extensible re f = λ z. record {
  terminal = (reordered_back host extensible (pieces_reordered re)).terminal f.terminal z;
  prefix = f.prefix;
}

-- layout there and back
layout_back : (host : GrammarView) (own : LexiconView) {written others : List WrittenPiece} {to from : ℕ → ℕ} →
    IsReordering to from written others → (j : ℕ) →
    number_to (host_layouts host own) (map (own_layouts host own) others) (map (own_layouts host own) written) from
    (number_to (host_layouts host own) (map (own_layouts host own) written) (map (own_layouts host own) others) to j) ≡ j
layout_back host own re = number_back (host_layouts host own) (reordering_map (own_layouts host own) re)

module _ (host : GrammarView) (extensible : List ℕ) (own : LexiconView) (written others : List WrittenPiece) (to from : ℕ → ℕ)
    (ok : ArePieces host extensible (pieces_of written)) (re : IsReordering to from written others) (l m : LanguageView)
    (is : IsUnitedLanguage host extensible own written l) (also : IsUnitedLanguage host extensible own others m) where
  there_ok : ArePieces host extensible (pieces_of others)
  there_ok = pieces_there (pieces_reordered re) ok

  -- where forms are there, and back
  abbrev there : (p : ℕ) → Spot (renamed_form (names_to host extensible written others to))
      (layout_to host extensible own written others to from ok re) l.forms m.forms p
  there = spots host extensible own written others to from ok re l m is also

  abbrev back : (p : ℕ) → Spot (renamed_form (names_to host extensible others written from))
      (layout_to host extensible own others written from to there_ok (reordering_back re)) m.forms l.forms p
  back = spots host extensible own others written from to there_ok (reordering_back re) m l also is

  -- the two are one language
  pub same_union : IsSameBy (names_to host extensible written others to)
      (names_to host extensible others written from) l m
  same_union = (
    (λ p. (there p).place),
    (λ p. (back p).place),
    record {
      there = language_leads host extensible own written others to from ok re l m is also;
      back = language_leads host extensible own others written from to there_ok (reordering_back re) m l also is;
      undone = record {
        names = reordered_back host extensible (pieces_reordered re);
        place = spot_back (renamed_form (names_to host extensible written others to))
            (renamed_form (names_to host extensible others written from))
            (layout_to host extensible own written others to from ok re)
            (layout_to host extensible own others written from to there_ok (reordering_back re)) l.forms m.forms there back
            (form_back host extensible re) (layout_back host own re) is.forms.once;
      };
      redone = record {
        names = reordered_back host extensible (pieces_reordered (reordering_back re));
        place = spot_back (renamed_form (names_to host extensible others written from))
            (renamed_form (names_to host extensible written others to))
            (layout_to host extensible own others written from to there_ok (reordering_back re))
            (layout_to host extensible own written others to from ok re) m.forms l.forms back there
            (form_back host extensible (reordering_back re)) (layout_back host own (reordering_back re)) also.forms.once;
      };
    },
  )

  -- and texts have the same answers
  pub same_union_answers : HasSameAnswers (names_to host extensible written others to) l m
  same_union_answers = same_answers same_union.2

  -- and both or neither are languages on which texts are parsed
  pub same_language : IsLanguage l ↔ IsLanguage m
  same_language = (
    language_there same_union.2 (numbered host extensible own others m also),
    language_there (same_language_back same_union.2) (numbered host extensible own written l is),
  )
