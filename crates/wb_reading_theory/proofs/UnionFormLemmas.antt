-- The forms of the host alone are its forms in the union.
use Rattle.std.proofs.Common.{◌≡◌, ◌<◌, ◌+◌, ◌∙◌, ◌++◌, [], ℕ, zero, suc, List, Some, length, map, slice_get, refl, sym, ap}
use Rattle.std.proofs.Common.{subst, arith}
use Rattle.std.specs.Prelude.{Contains, None, option_map, slice_index_or}
use Rattle.std.specs.List.{range_with_len}
use Rattle.std.proofs.lemmas.Option.{slice_get-map, slice_get-get_or}
use Rattle.std.proofs.lemmas.List.Elements.{All-nil}
use Rattle.wb_base.specs.Grammar.{GrammarView}
use Rattle.wb_automata.specs.Automata.{IsMatch}
use Rattle.wb_determinism_contexts.specs.Considered.{LexiconView}
use Rattle.wb_scan_theory.specs.declared.form.Form.{Form}
use Rattle.wb_scan_theory.specs.Languages.{LanguageView, bare, forms_of}
use Rattle.wb_lemmas.proofs.Places.{append_after, append_keeps, at_once, nothing_at}
use Rattle.wb_compose_theory_order.specs.Languages.{IsPreferred}
use Rattle.wb_compose_theory_grammar.specs.Certificates.{AreCertified, IsCertifiedPiece}
use Rattle.wb_compose_theory_grammar.specs.Pieces.{IsPiece}
use Rattle.wb_compose_theory_grammar.specs.Places.{count_before}
use Rattle.wb_compose_theory_grammar.specs.UnitedWorlds.{terminal_sizes, united}
use Rattle.wb_compose_theory_grammar.proofs.PlaceLemmas.{lift_past}
use Rattle.wb_compose_theory_language.specs.Apart.{AreWrittenApart, IsPieceApart}
use Rattle.wb_compose_theory_language.specs.Forms as f
use Rattle.wb_compose_theory_language.specs.Forms.{IsForm, IsMarkerOf}
use Rattle.wb_compose_theory_language.specs.Languages.{IsUnitedLanguage}
use Rattle.wb_compose_theory_language.specs.Rows as r
use Rattle.wb_compose_theory_language.specs.Rows.{Prefers, Reads, host_row, layout_count, sizes}
use Rattle.wb_compose_theory_language.specs.Written.{WrittenPiece, host_layouts, pieces_of}
use Rattle.wb_compose_theory_language.proofs.BareLemmas.{marker_own}
use Rattle.wb_compose_theory_language.proofs.PreferenceLemmas.{in_host}
use Rattle.wb_compose_theory_language.proofs.ReadLemmas.{reads_host}
use Rattle.wb_compose_theory_language.proofs.RowLemmas.{host_below, host_past}
use Rattle.wb_reading_theory.specs.Languages.{IsSameForm, KeepsForms, of_layout, of_terminal}

-- a number of a range
range_at : (a n k : ℕ) → k < n → slice_get (range_with_len a n) k ≡ Some (a + k)
range_at a zero k less = absurd (omega (arith, less))
range_at a (suc n) zero less = ap Some (let e : a ≡ a + 0 = omega arith in e)
range_at a (suc n) (suc k) less = range_at (a + 1) n k (omega (arith, less)) ∙ ap Some (let e : (a + 1) + k ≡ a + suc k = omega arith in e)

range_len : (a n : ℕ) → length (range_with_len a n) ≡ n
range_len a zero = refl
range_len a (suc n) = ap suc (range_len (a + 1) n)

-- a member is at some place
at_contained : {X : Type 0} (xs : List X) (x : X) → Contains xs x → (i : ℕ) × (slice_get xs i ≡ Some x)
at_contained xs x (k, less, is) = (k, slice_get-get_or xs k x less ∙ ap Some is)

-- what is certified of all is certified of the host alone
pub certified_alone : (host : GrammarView) (extensible : List ℕ) (written : List WrittenPiece) →
    AreCertified host extensible (pieces_of written) →
    AreCertified host extensible []
certified_alone host extensible written is = record {
  are_pieces = record {
    is_grammar = is.are_pieces.is_grammar;
    within = is.are_pieces.within;
    differ = is.are_pieces.differ;
    each = All-nil (IsPiece host extensible);
  };
  host_certified = is.host_certified;
  each_certified = All-nil (IsCertifiedPiece host extensible);
}

apart_alone : (host : GrammarView) (extensible : List ℕ) (own : LexiconView) (written : List WrittenPiece) →
    AreWrittenApart host extensible own written → AreWrittenApart host extensible own []
apart_alone host extensible own written is = record {
  of_host = is.of_host;
  of_extensions = All-nil (IsPieceApart host extensible own);
  names = λ x i j at at'. absurd (nothing_at x i at);
}

module _ (host : GrammarView) (extensible : List ℕ) (own : LexiconView) (written : List WrittenPiece)
    (certified : AreCertified host extensible (pieces_of written)) (apart : AreWrittenApart host extensible own written) where
  -- the row of the host that a form of its own is, with the empty prefix, in the language of these extensions
  record IsHostForm (extensions : List WrittenPiece) (l : LanguageView) (place row : ℕ) : Type 0 where
    form : Form
    at : slice_get (forms_of l) place ≡ Some form
    number : form.terminal ≡ host_row host extensible own extensions row
    no_prefix : form.prefix ≡ []

  -- a form of the union of a terminal of the host is the host's
  host_form : (extensions : List WrittenPiece) → AreCertified host extensible (pieces_of extensions) →
      AreWrittenApart host extensible own extensions →
      (form : Form) → IsForm host extensible own extensions form → form.terminal < host.terminals → form.prefix ≡ []
  host_form extensions ok clear form (f.prefixed k x m is) less =
      let mine = marker_own host extensible own extensions ok clear [] k x m.listed m.terminal m.marker in
      let low = mine.0 in
      let up = m.is ∙ lift_past host.terminals (count_before (terminal_sizes host extensible (pieces_of extensions)) k) m.terminal low in
      absurd (omega (arith, less, up, low))
  host_form extensions ok clear form (f.kept k x m out is) less = is
  host_form extensions ok clear form (f.of_host low is) less = is
  host_form extensions ok clear form (f.of_extension k x t at mine t_is is) less = is

  -- layout
  -- its number by its place
  pub number_at : (extensions : List WrittenPiece) (l : LanguageView) → IsUnitedLanguage host extensible own extensions l → (k : ℕ) →
      k < layout_count host extensible own extensions →
      slice_get l.layout k ≡ Some ((united host extensible (pieces_of extensions)).terminals + k)
  number_at extensions l is k less =
      ap (λ z. slice_get z k) is.layout ∙
      range_at (united host extensible (pieces_of extensions)).terminals (layout_count host extensible own extensions) k less

  host_number : (extensions : List WrittenPiece) → AreCertified host extensible (pieces_of extensions) → (k : ℕ) →
      k < host_layouts host own → (united host extensible (pieces_of extensions)).terminals + k
      ≡ host_row host extensible own extensions (host.terminals + k)
  host_number extensions ok k less = let past = host_past host extensible own extensions ok.are_pieces k less in omega (arith, past)

  -- the form of the host's
  layout_at : (extensions : List WrittenPiece) → AreCertified host extensible (pieces_of extensions) → (l : LanguageView) →
      IsUnitedLanguage host extensible own extensions l → (k place : ℕ) → k < host_layouts host own → place ≡ length l.forms + k →
      IsHostForm extensions l place (host.terminals + k)
  layout_at extensions ok l is k place less place_is =
      let total = (united host extensible (pieces_of extensions)).terminals in
      record {
        form = bare (total + k);
        at = ap (slice_get (forms_of l)) place_is ∙ (append_after l.forms (map bare l.layout) k ∙
            (slice_get-map bare l.layout k ∙ ap (option_map bare) (number_at extensions l is k (omega (arith, less)))));
        number = host_number extensions ok k less;
        no_prefix = refl;
      }

  -- which is considered at each prefix
  no_span : (extensions : List WrittenPiece) → AreCertified host extensible (pieces_of extensions) → (l : LanguageView) →
      IsUnitedLanguage host extensible own extensions l → (k : ℕ) → k < host_layouts host own → slice_index_or l.spans k None ≡ None
  no_span extensions ok l is k less =
      is.spans.of_host k (host.terminals + k) (omega arith, omega (arith, less))
      (number_at extensions l is k (omega (arith, less)) ∙ ap Some (host_number extensions ok k less))

  -- a terminal
  terminal_at : (extensions : List WrittenPiece) → AreCertified host extensible (pieces_of extensions) →
      AreWrittenApart host extensible own extensions →
      (l : LanguageView) → IsUnitedLanguage host extensible own extensions l → (form : Form) (place : ℕ) →
      slice_get l.forms place ≡ Some form →
      form.terminal < host.terminals → IsHostForm extensions l place form.terminal
  terminal_at extensions ok clear l is form place at less = record {
    form = form;
    at = append_keeps l.forms (map bare l.layout) place form at;
    number = sym (host_below host extensible own extensions ok.are_pieces form.terminal less);
    no_prefix = host_form extensions ok clear form (is.forms.each place form at) less;
  }

  -- what such a form matches is what the host's row matches
  matches_row : (extensions : List WrittenPiece) → AreCertified host extensible (pieces_of extensions) →
      AreWrittenApart host extensible own extensions →
      (l : LanguageView) → IsUnitedLanguage host extensible own extensions l → (place row : ℕ) → IsHostForm extensions l place row →
      (text : List ℕ) →
      IsMatch l.expressions place text → IsMatch own.expressions row text
  matches_row extensions ok clear l is place row here text m =
      let found = (is.expressions place here.form here.at text).0 m in
      let lexeme_is : text ≡ found.lexeme = found.is ∙ ap (λ z. z ++ found.lexeme) here.no_prefix in
      subst (IsMatch own.expressions row) (sym lexeme_is)
      (reads_host host extensible own extensions ok.are_pieces clear row found.lexeme
      (subst (λ z. Reads host extensible own extensions z found.lexeme) here.number found.reads))

  row_matches : (extensions : List WrittenPiece) (l : LanguageView) → IsUnitedLanguage host extensible own extensions l → (place row : ℕ) →
      IsHostForm extensions l place row → (text : List ℕ) → IsMatch own.expressions row text → IsMatch l.expressions place text
  row_matches extensions l is place row here text m = (is.expressions place here.form here.at text).1 (record {
    lexeme = text;
    reads = r.of_host row here.number m;
    is = ap (λ z. z ++ text) (sym here.no_prefix);
  })

  -- what is preferred is what the host prefers
  preferred_row : (extensions : List WrittenPiece) → AreCertified host extensible (pieces_of extensions) →
      AreWrittenApart host extensible own extensions →
      (l : LanguageView) → IsUnitedLanguage host extensible own extensions l → (place row other also : ℕ) →
      IsHostForm extensions l place row →
      IsHostForm extensions l other also → IsPreferred l place other → Contains own.preferences (row, also)
  preferred_row extensions ok clear l is place row other also here there p =
      let one = ap (λ (z : Form). z.terminal) (at_once (forms_of l) place p.one here.form p.at here.at) ∙ here.number in
      let two = ap (λ (z : Form). z.terminal) (at_once (forms_of l) other p.two there.form p.to there.at) ∙ there.number in
      let prefers = (is.preferences p.one.terminal p.two.terminal).0 p.preferred in
      in_host host extensible own extensions ok.are_pieces clear row also
      (subst (λ z. Prefers host extensible own extensions z (host_row host extensible own extensions also)) one
      (subst (Prefers host extensible own extensions p.one.terminal) two prefers))

  row_preferred : (extensions : List WrittenPiece) (l : LanguageView) → IsUnitedLanguage host extensible own extensions l →
      (place row other also : ℕ) →
      IsHostForm extensions l place row → IsHostForm extensions l other also → Contains own.preferences (row, also) →
      IsPreferred l place other
  row_preferred extensions l is place row other also here there listed = record {
    one = here.form;
    two = there.form;
    at = here.at;
    to = there.at;
    preferred = (is.preferences here.form.terminal there.form.terminal).1 (r.by_host row also here.number there.number listed);
  }

  module _ (h u : LanguageView) (of_host : IsUnitedLanguage host extensible own [] h)
      (of_union : IsUnitedLanguage host extensible own written u) where
    alone : AreCertified host extensible (pieces_of [])
    alone = certified_alone host extensible written certified

    clear : AreWrittenApart host extensible own []
    clear = apart_alone host extensible own written apart

    -- a form of the host alone is one of a terminal
    of_terminals : (form : Form) → IsForm host extensible own [] form → (form.terminal < host.terminals) × (form.prefix ≡ [])
    of_terminals form (f.prefixed k x m is) = absurd (nothing_at x k m.listed)
    of_terminals form (f.kept k x m out is) = absurd (nothing_at x k m.listed)
    of_terminals form (f.of_host low is) = (low, is)
    of_terminals form (f.of_extension k x t at mine t_is is) = absurd (nothing_at x k at)

    -- both forms of a pair are of one row
    record OneRow (p q : ℕ) : Type 0 where
      row : ℕ
      here : IsHostForm [] h p row
      there : IsHostForm written u q row

    -- how many layouts there are
    pub host_len : length h.layout ≡ host_layouts host own
    host_len =
        let len = ap length of_host.layout ∙ range_len (united host extensible []).terminals (layout_count host extensible own []) in
        omega (arith, len)

    pub union_len : length u.layout ≡ layout_count host extensible own written
    union_len =
        ap length of_union.layout ∙
        range_len (united host extensible (pieces_of written)).terminals (layout_count host extensible own written)

    one_row : (p q : ℕ) → IsSameForm h u p q → OneRow p q
    one_row p q (of_terminal form at to) =
        let less = (of_terminals form (of_host.forms.each p form at)).0 in
        record {
          row = form.terminal;
          here = terminal_at [] alone clear h of_host form p at less;
          there = terminal_at written certified apart u of_union form q to less;
        }
    one_row p q (of_layout k less p_is q_is) =
        let len = host_len in
        let near : k < host_layouts host own = omega (arith, less, len) in
        record {
          row = host.terminals + k;
          here = layout_at [] alone h of_host k p near p_is;
          there = layout_at written certified u of_union k q near q_is;
        }

    pub keeps_forms : h.grammar.terminals ≡ host.terminals → KeepsForms h u
    keeps_forms terminals = record {
      form_to = λ p form at.
          let (less, is) = of_terminals form (of_host.forms.each p form at) in
          at_contained u.forms form (of_union.forms.every form (f.of_host less is));
      form_from = λ q form at less.
          let low = subst (λ z. form.terminal < z) terminals less in
          at_contained h.forms form
          (of_host.forms.every form (f.of_host low (host_form written certified apart form (of_union.forms.each q form at) low)));
      once = of_host.forms.once;
      layout = let one = host_len in let two = union_len in omega (arith, one, two);
      everywhere = λ k less.
          let len = host_len in
          let near : k < host_layouts host own = omega (arith, less, len) in
          (no_span [] alone h of_host k near, no_span written certified u of_union k near);
      matches = λ p q same text.
          let one = one_row p q same in (
            λ m. row_matches written u of_union q one.row one.there text (matches_row [] alone clear h of_host p one.row one.here text m),
            λ m. row_matches [] h of_host p one.row one.here text
                (matches_row written certified apart u of_union q one.row one.there text m),
          );
      preferences = λ p q r s first second.
          let one = one_row p q first in
          let two = one_row r s second in (
            λ m. row_preferred written u of_union q one.row s two.row one.there two.there
                (preferred_row [] alone clear h of_host p one.row r two.row one.here two.here m),
            λ m. row_preferred [] h of_host p one.row r two.row one.here two.here
                (preferred_row written certified apart u of_union q one.row s two.row one.there two.there m),
          );
    }
