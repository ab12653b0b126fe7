-- What the terminals of a union match and prefer, and its forms, are the same where the extensions come in another order.
use Rattle.std.proofs.Common.{◌≡◌, ◌<◌, ◌+◌, ◌∙◌, ℕ, List, Some, slice_get, refl, sym, ap, subst, inl, inr, arith}
use Rattle.std.proofs.lemmas.Bool.{cases_lt}
use Rattle.std.specs.Prelude.{◌↔◌}
use Rattle.wb_base.specs.Grammar.{GrammarView}
use Rattle.wb_determinism_contexts.specs.Considered.{LexiconView}
use Rattle.wb_scan_theory.specs.declared.form.Form.{Form}
use Rattle.wb_lemmas.proofs.Elements.{all_at, all_from_places}
use Rattle.wb_compose_theory.specs.Renamings.{Renaming}
use Rattle.wb_compose_theory_grammar.specs.Laws.{in_union}
use Rattle.wb_compose_theory_grammar.specs.Pieces.{ArePieces, IsPiece, Piece}
use Rattle.wb_compose_theory.specs.Blocks.{spread}
use Rattle.wb_compose_theory_grammar.specs.Places.{count_before, total_of}
use Rattle.wb_compose_theory_grammar.specs.Unions.{added_terminals}
use Rattle.wb_compose_theory_grammar.specs.UnitedWorlds.{terminal_sizes, united}
use Rattle.wb_compose_theory_grammar.proofs.BridgeLemmas.{piece_ok}
use Rattle.wb_compose_theory_grammar.proofs.FactLemmas.{at_map, size_at}
use Rattle.wb_compose_theory_grammar.proofs.PlaceLemmas.{lift_below, lift_past, within_total}
use Rattle.wb_compose_theory_language.specs.Forms.{IsForm, IsMarkerOf, IsOfOther, IsWithdrawn, ShareText, kept, prefixed}
use Rattle.wb_compose_theory_language.specs.Forms as form
use Rattle.wb_compose_theory_language.specs.Languages.{IsTextOf}
use Rattle.wb_compose_theory_language.specs.Rows.{Prefers, Reads, by_extension, by_host, host_row, layout_sizes, layouts_from, piece_row}
use Rattle.wb_compose_theory_language.specs.Rows.{sizes}
use Rattle.wb_compose_theory_language.specs.Rows as row
use Rattle.wb_compose_theory_language.specs.Written.{WrittenPiece, host_layouts, own_layouts, pieces_of}
use Rattle.wb_compose_theory_order.specs.Languages.{renamed_form}
use Rattle.wb_compose_theory_order.specs.Orders.{IsReordering, number_to}
use Rattle.wb_compose_theory_order.specs.Unions.{names_to}
use Rattle.wb_compose_theory_order.proofs.NumberLemmas.{number_back, reordering_back, reordering_map, to_above, to_below, to_host}
use Rattle.wb_compose_theory_order.proofs.NumberLemmas.{to_host_spread, to_lift, to_past, to_shift, to_spread}
use Rattle.wb_compose_theory_order.proofs.UnionLemmas.{sizes_reordered}

-- the extensions by their grammars
pub pieces_reordered : {to from : ℕ → ℕ} {written others : List WrittenPiece} → IsReordering to from written others →
    IsReordering to from (pieces_of written) (pieces_of others)
pieces_reordered re = reordering_map (λ (x : WrittenPiece). x.piece) re

-- extensions stay extensions
pub pieces_there : {g : GrammarView} {extensible : List ℕ} {to from : ℕ → ℕ} {pieces others : List Piece} →
    IsReordering to from pieces others → ArePieces g extensible pieces → ArePieces g extensible others
pieces_there {g} {extensible} {to} {from} {pieces} {others} re ok = record {
  is_grammar = ok.is_grammar;
  within = ok.within;
  differ = ok.differ;
  each = all_from_places (IsPiece g extensible) others
      (λ k x at. all_at (IsPiece g extensible) pieces (from k) x ok.each (re.back k x at));
}

module _ (host : GrammarView) (extensible : List ℕ) (own : LexiconView) (written others : List WrittenPiece) (to from : ℕ → ℕ)
    (ok : ArePieces host extensible (pieces_of written)) (re : IsReordering to from written others) where
  -- where numbers go
  abbrev pub names : Renaming
  names = names_to host extensible written others to

  sizes_to : IsReordering to from (terminal_sizes host extensible (pieces_of written)) (terminal_sizes host extensible (pieces_of others))
  sizes_to = sizes_reordered host extensible (added_terminals host) (pieces_reordered re)

  piece_there : (k : ℕ) (x : WrittenPiece) → slice_get written k ≡ Some x → slice_get (pieces_of written) k ≡ Some (x.piece)
  piece_there k x at = at_map (λ (y : WrittenPiece). y.piece) written k x at

  size_there : (k : ℕ) (x : WrittenPiece) → slice_get written k ≡ Some x →
      slice_get (terminal_sizes host extensible (pieces_of written)) k ≡ Some (added_terminals host x.piece.grammar)
  size_there k x at = size_at host extensible (pieces_of written) (added_terminals host) k x.piece (piece_there k x at)

  layouts_to : IsReordering to from (layout_sizes host extensible own written) (layout_sizes host extensible own others)
  layouts_to = reordering_map (own_layouts host own) re

  -- where layout goes, by its place among all layouts
  abbrev pub layout_to : ℕ → ℕ
  layout_to = number_to (host_layouts host own) (layout_sizes host extensible own written) (layout_sizes host extensible own others) to

  -- where terminals and layout go: first among terminals, and then among layouts
  abbrev among_layouts : ℕ → ℕ
  among_layouts = number_to (layouts_from host extensible own others) (layout_sizes host extensible own written)
      (layout_sizes host extensible own others) to

  abbrev pub row_to : ℕ → ℕ
  row_to number = among_layouts (names.terminal number)

  -- a terminal goes where its name does
  pub terminal_row : (t : ℕ) → t < (united host extensible (pieces_of written)).terminals → row_to t ≡ names.terminal t
  terminal_row t less =
      let below = to_below host.terminals sizes_to t (omega (arith, less)) in
      to_host (layouts_from host extensible own others) layouts_to (names.terminal t) (omega (arith, below))

  -- layout goes where its place does
  pub layout_row : (j : ℕ) → row_to ((united host extensible (pieces_of written)).terminals + j)
      ≡ (united host extensible (pieces_of others)).terminals + layout_to j
  layout_row j =
      let past = to_past host.terminals sizes_to j ((united host extensible (pieces_of written)).terminals + j) (omega arith) in
      let place : names.terminal ((united host extensible (pieces_of written)).terminals + j)
      ≡ (united host extensible (pieces_of others)).terminals + j = omega (arith, past) in
      ap among_layouts place ∙ to_shift (united host extensible (pieces_of others)).terminals (host_layouts host own) layouts_to j

  pub host_to : (t : ℕ) → row_to (host_row host extensible own written t) ≡ host_row host extensible own others t
  host_to t =
      ap among_layouts (to_above host.terminals (host_layouts host own) sizes_to 0 0 (total_of (layout_sizes host extensible own written))
      (spread host.terminals 0 0 (total_of (sizes host extensible own written)) t)) ∙
      (to_host_spread (layouts_from host extensible own others) layouts_to
      (names.terminal (spread host.terminals 0 0 (total_of (sizes host extensible own written)) t)) ∙
      ap (spread (layouts_from host extensible own others) 0 0 (total_of (layout_sizes host extensible own others)))
      (to_host_spread host.terminals sizes_to t))

  pub piece_to : (k : ℕ) (x : WrittenPiece) (t : ℕ) → slice_get written k ≡ Some x →
      row_to (piece_row host extensible own written k x t) ≡ piece_row host extensible own others (to k) x t
  piece_to k x t at =
      ap among_layouts (to_above host.terminals (host_layouts host own) sizes_to
      (count_before (layout_sizes host extensible own written) k) (own_layouts host own x)
      (total_of (layout_sizes host extensible own written)) terminal) ∙
      (to_spread (layouts_from host extensible own others) layouts_to k (own_layouts host own x) (names.terminal terminal)
      (at_map (own_layouts host own) written k x at) ∙
      ap (spread (layouts_from host extensible own others) (count_before (layout_sizes host extensible own others) (to k))
      (own_layouts host own x) (total_of (layout_sizes host extensible own others)))
      (to_spread host.terminals sizes_to k (added_terminals host x.piece.grammar) t (size_there k x at)))
    where
      terminal : ℕ
      terminal = spread host.terminals (count_before (sizes host extensible own written) k) (added_terminals host x.piece.grammar)
          (total_of (sizes host extensible own written)) t

  -- what a terminal or layout matches
  pub reads_there : (number : ℕ) (text : List ℕ) → Reads host extensible own written number text →
      Reads host extensible own others (row_to number) text
  reads_there number text (row.of_host t is matches) = row.of_host t (ap row_to is ∙ host_to t) matches
  reads_there number text (row.of_extension k x t at is matches) =
      row.of_extension (to k) x t (re.there k x at) (ap row_to is ∙ piece_to k x t at) matches

  -- what is preferred
  pub prefers_there : (one other : ℕ) → Prefers host extensible own written one other →
      Prefers host extensible own others (row_to one) (row_to other)
  prefers_there one other (by_host t u one_is other_is listed) =
      by_host t u (ap row_to one_is ∙ host_to t) (ap row_to other_is ∙ host_to u) listed
  prefers_there one other (by_extension k x t u at one_is other_is listed) =
      by_extension (to k) x t u (re.there k x at) (ap row_to one_is ∙ piece_to k x t at) (ap row_to other_is ∙ piece_to k x u at) listed

  -- a terminal of an extension
  union_to : (k : ℕ) (x : WrittenPiece) (t : ℕ) → slice_get written k ≡ Some x → t < x.piece.grammar.terminals →
      names.terminal (in_union host extensible (pieces_of written) k t) ≡ in_union host extensible (pieces_of others) (to k) t
  union_to k x t at less =
      let more = (piece_ok host extensible (pieces_of written) ok k x.piece (piece_there k x at)).extends.terminals in
      to_lift host.terminals sizes_to k (added_terminals host x.piece.grammar)
      (count_before (terminal_sizes host extensible (pieces_of written)) k)
      (count_before (terminal_sizes host extensible (pieces_of others)) (to k)) t (size_there k x at) refl refl (omega (arith, less, more))

  union_less : (k : ℕ) (x : WrittenPiece) (t : ℕ) → slice_get written k ≡ Some x → t < x.piece.grammar.terminals →
      in_union host extensible (pieces_of written) k t < (united host extensible (pieces_of written)).terminals
  union_less k x t at less = elim (cases_lt t host.terminals) [
    | inl low ↦
        let is = lift_below host.terminals (count_before (sizes host extensible own written) k) t low in omega (arith, is, low)
    | inr high ↦
        let is = lift_past host.terminals (count_before (sizes host extensible own written) k) t high in
        let whole = within_total (sizes host extensible own written) k (added_terminals host x.piece.grammar) (size_there k x at) in
        omega (arith, is, high, less, whole)
  ]

  marker_less : (k : ℕ) (x : WrittenPiece) (number : ℕ) → IsMarkerOf host extensible own written k x number →
      number < (united host extensible (pieces_of written)).terminals
  marker_less k x number marker =
      let (a, mark_is) = marker.marker in
      let within = ((piece_ok host extensible (pieces_of written) ok k x.piece (piece_there k x marker.listed)).markers marker.terminal a
      mark_is).within in
      subst (λ z. z < (united host extensible (pieces_of written)).terminals) (sym marker.is)
      (union_less k x marker.terminal marker.listed within)

  -- forms are of terminals
  pub form_less : (f : Form) → IsForm host extensible own written f → f.terminal < (united host extensible (pieces_of written)).terminals
  form_less f (prefixed k x marker is) = marker_less k x f.terminal marker
  form_less f (kept k x marker stays is) = marker_less k x f.terminal marker
  form_less f (form.of_host less is) = omega (arith, less)
  form_less f (form.of_extension k x t at mine t_is is) =
      subst (λ z. z < (united host extensible (pieces_of written)).terminals) (sym t_is) (union_less k x t at mine.within)

  pub marker_there : (k : ℕ) (x : WrittenPiece) (number : ℕ) → IsMarkerOf host extensible own written k x number →
      IsMarkerOf host extensible own others (to k) x (names.terminal number)
  marker_there k x number marker =
      let (a, mark_is) = marker.marker in
      let less = ((piece_ok host extensible (pieces_of written) ok k x.piece (piece_there k x marker.listed)).markers marker.terminal a
      mark_is).within in
      record {
        listed = re.there k x marker.listed;
        terminal = marker.terminal;
        marker = marker.marker;
        is = ap names.terminal marker.is ∙ union_to k x marker.terminal marker.listed less;
      }

  other_there : (k number : ℕ) → IsOfOther host extensible own written k number →
      IsOfOther host extensible own others (to k) (row_to number)
  other_there k number o = record {
    other = to o.other;
    extension = o.extension;
    listed = re.there o.other o.extension o.listed;
    different = λ e. o.different (sym (re.undone o.other) ∙ (ap from e ∙ re.undone k));
    terminal = o.terminal;
    own_row = o.own_row;
    is = ap row_to o.is ∙ piece_to o.other o.extension o.terminal o.listed;
  }

  -- a marker that is withdrawn
  pub withdrawn_there : (number : ℕ) → IsWithdrawn host extensible own written number →
      IsWithdrawn host extensible own others (names.terminal number)
  withdrawn_there number w = record {
    k = to w.k;
    x = w.x;
    marker = marker_there w.k w.x number w.marker;
    rival = row_to w.rival;
    of_other = other_there w.k w.rival w.of_other;
    share = record {
      text = w.share.text;
      one_reads = subst (λ z. Reads host extensible own others z w.share.text) (terminal_row number (marker_less w.k w.x number w.marker))
          (reads_there number w.share.text w.share.one_reads);
      other_reads = reads_there w.rival w.share.text w.share.other_reads;
    };
  }

  -- a form there, also that of layout
  abbrev pub moved_form : Form → Form
  moved_form f = record f { terminal = row_to f.terminal }

  pub form_is : (f : Form) → IsForm host extensible own written f → renamed_form names f ≡ moved_form f
  form_is f is = λ z. record { terminal = sym (terminal_row f.terminal (form_less f is)) z; prefix = f.prefix }

  -- what a form matches
  pub text_there : (f : Form) (text : List ℕ) → IsTextOf host extensible own written f text →
      IsTextOf host extensible own others (moved_form f) text
  text_there f text h = record { lexeme = h.lexeme; reads = reads_there f.terminal h.lexeme h.reads; is = h.is }

  -- a form of the union, where what is withdrawn there is withdrawn here
  form_by : ((number : ℕ) → IsWithdrawn host extensible own others (names.terminal number) →
      IsWithdrawn host extensible own written number) → (f : Form) → IsForm host extensible own written f →
      IsForm host extensible own others (renamed_form names f)
  form_by back f (prefixed k x marker is) = prefixed (to k) x (marker_there k x f.terminal marker) is
  form_by back f (kept k x marker stays bare_is) =
      kept (to k) x (marker_there k x f.terminal marker) (λ w. stays (back f.terminal w)) bare_is
  form_by back f (form.of_host less bare_is) =
      form.of_host (let is = to_host host.terminals sizes_to f.terminal less in omega (arith, is, less)) bare_is
  form_by back f (form.of_extension k x t at mine is bare_is) =
      form.of_extension (to k) x t (re.there k x at)
      (record { own = mine.own; within = mine.within; unmarked = mine.unmarked })
      (ap names.terminal is ∙ union_to k x t at mine.within) bare_is

module _ (host : GrammarView) (extensible : List ℕ) (own : LexiconView) (written others : List WrittenPiece) (to from : ℕ → ℕ)
    (ok : ArePieces host extensible (pieces_of written)) (re : IsReordering to from written others) where
  -- what is withdrawn there is withdrawn here
  withdrawn_back : (number : ℕ) → IsWithdrawn host extensible own others ((names_to host extensible written others to).terminal number) →
      IsWithdrawn host extensible own written number
  withdrawn_back number w =
      subst (IsWithdrawn host extensible own written)
      (number_back host.terminals (sizes_reordered host extensible (added_terminals host) (pieces_reordered re)) number)
      (withdrawn_there host extensible own others written from to (pieces_there (pieces_reordered re) ok) (reordering_back re)
      ((names_to host extensible written others to).terminal number) w)

  pub withdrawn_same : (number : ℕ) → IsWithdrawn host extensible own written number ↔
      IsWithdrawn host extensible own others ((names_to host extensible written others to).terminal number)
  withdrawn_same number = (withdrawn_there host extensible own written others to from ok re number, withdrawn_back number)

  -- each form of the union is one there
  pub form_there : (f : Form) → IsForm host extensible own written f →
      IsForm host extensible own others (renamed_form (names_to host extensible written others to) f)
  form_there = form_by host extensible own written others to from ok re withdrawn_back
