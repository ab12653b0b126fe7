-- Two bare forms that are considered at one prefix of the union and match one text are ordered: case by case.
use Rattle.std.proofs.Common.{◌≡◌, ◌≢◌, ◌<◌, ◌∙◌, ℕ, List, Some, slice_get, refl, sym, ap, subst, inl, inr, arith}
use Rattle.std.proofs.lemmas.Bool.{cases_eq}
use Rattle.std.proofs.lemmas.Option.{same_Some}
use Rattle.wb_base.specs.declared.symbol.Symbol.{Symbol}
use Rattle.wb_base.specs.Grammar.{GrammarView}
use Rattle.wb_determinism_contexts.specs.Considered.{LexiconView}
use Rattle.wb_compose_theory_grammar.specs.Certificates.{AreCertified}
use Rattle.wb_compose_theory_grammar.specs.Laws.{IsOwn, in_union}
use Rattle.wb_compose_theory_grammar.proofs.BridgeLemmas.{piece_ok}
use Rattle.wb_compose_theory_layout.specs.Extensions.{HoldsExtension}
use Rattle.wb_compose_theory_language.specs.Written.{IsOwnLayoutRow, IsOwnRow, IsOwnTerminal, WrittenPiece, pieces_of, row_up}
use Rattle.wb_compose_theory_language.specs.Apart.{AreWrittenApart, IsMarkerRow}
use Rattle.wb_compose_theory_language.specs.Forms.{IsMarkerOf, IsWithdrawn}
use Rattle.wb_compose_theory_language.specs.Rows.{host_row, piece_row}
use Rattle.wb_compose_theory_language.proofs.PairLemmas.{BareRow, IsLayoutHere, IsValidHere, Rivals, is_layout, layout_within, layouts}
use Rattle.wb_compose_theory_language.proofs.PairLemmas.{moved, of_extension, of_own_layout, own_layout_host, own_layout_valid, own_layouts_both}
use Rattle.wb_compose_theory_language.proofs.PairLemmas.{the_held}
use Rattle.wb_compose_theory_language.proofs.PairLemmas.{of_host, of_layout, of_marker, the_law, together, turned, with_host, with_marker}
use Rattle.wb_compose_theory_language.proofs.PairLemmas.{with_own}
use Rattle.wb_compose_theory_language.proofs.PairLemmas.{with_valid}
use Rattle.wb_compose_theory_language.proofs.RowLemmas.{host_below, more, piece_there, row_below, row_is, up_row}

module _ (host : GrammarView) (extensible : List ℕ) (own : LexiconView) (written : List WrittenPiece)
    (certified : AreCertified host extensible (pieces_of written)) (apart : AreWrittenApart host extensible own written)
    (prefix : List Symbol) where
  abbrev R : ℕ → ℕ → List ℕ → Type 0
  R one other text = Rivals host extensible own written certified apart prefix one other text

  abbrev V : ℕ → Type 0
  V t = IsValidHere host extensible own written certified apart prefix t

  abbrev L : ℕ → Type 0
  L t = IsLayoutHere host extensible own written certified apart prefix t

  abbrev Holds : ℕ → WrittenPiece → Type 0
  Holds k x = HoldsExtension host extensible (pieces_of written) k x.piece prefix

  -- a marker is a terminal of its extension
  pub marker_own : (k : ℕ) (x : WrittenPiece) → slice_get written k ≡ Some x → (m : ℕ) → IsMarkerRow host extensible own x m →
      IsOwnTerminal host own x m
  marker_own k x at m (a, mark) =
      let facts = (piece_ok host extensible (pieces_of written) certified.are_pieces k x.piece
      (piece_there host extensible own written certified.are_pieces k x at)).markers m a mark in
      (facts.own, facts.within)

  -- one place, one extension
  pub one_piece : (k l : ℕ) (x y : WrittenPiece) → slice_get written k ≡ Some x → slice_get written l ≡ Some y → k ≡ l → y ≡ x
  one_piece k l x y at there same = same_Some y x (sym there ∙ (ap (slice_get written) (sym same) ∙ at))

  -- rows of the host and of an extension with it by the numbers of the union
  host_is : (t : ℕ) → t < host.terminals → t ≡ host_row host extensible own written t
  host_is t less = sym (host_below host extensible own written certified.are_pieces t less)

  module _ (k : ℕ) (x : WrittenPiece) (at : slice_get written k ≡ Some x) where
    piece_host : (t : ℕ) → t < host.terminals → t ≡ piece_row host extensible own written k x t
    piece_host t less = sym (row_below host extensible own written certified.are_pieces k x at t less)

    piece_is : (t u : ℕ) → t < x.piece.grammar.terminals → u ≡ in_union host extensible (pieces_of written) k t →
        u ≡ piece_row host extensible own written k x t
    piece_is t u less is = is ∙ row_is host extensible own written certified.are_pieces k x at t less

    piece_layout : (t u : ℕ) → u ≡ host_row host extensible own written t →
        u ≡ piece_row host extensible own written k x (row_up host own x t)
    piece_layout t u is = is ∙ sym (up_row host extensible own written certified.are_pieces k x at t)

    within : (t : ℕ) → t < host.terminals → t < x.piece.grammar.terminals
    within t less = let le = more host extensible own written certified.are_pieces k x at in omega (arith, less, le)

    -- a terminal of the extension that is no marker, with one of the host
    own_host : (a t u : ℕ) (text : List ℕ) → IsOwn host extensible (pieces_of written) x.piece a →
        t ≡ in_union host extensible (pieces_of written) k a → u < host.terminals → R t u text → V t → V u → ⊥
    own_host a t u text mine t_is less r vt vu =
        with_valid host extensible own written certified apart prefix k x at a u text mine (within u less)
        (moved host extensible own written certified apart prefix t u (piece_row host extensible own written k x a)
        (piece_row host extensible own written k x u) text (piece_is a t mine.within t_is) (piece_host u less) r)
        (subst V t_is vt)
        (subst V (piece_host u less ∙ sym (row_is host extensible own written certified.are_pieces k x at u (within u less))) vu)

    -- with layout of the host
    own_layout : (a t b u : ℕ) (text : List ℕ) → IsOwn host extensible (pieces_of written) x.piece a →
        t ≡ in_union host extensible (pieces_of written) k a → L b → u ≡ host_row host extensible own written b → R t u text → V t → ⊥
    own_layout a t b u text mine t_is layout_is u_is r vt =
        with_own host extensible own written certified apart prefix k x at a (row_up host own x b) text mine
        (λ other v. inr (inl (is_layout host extensible own written certified apart prefix k x at b layout_is)))
        (moved host extensible own written certified apart prefix t u (piece_row host extensible own written k x a)
        (piece_row host extensible own written k x (row_up host own x b)) text (piece_is a t mine.within t_is)
        (piece_layout b u u_is) r)
        (subst V t_is vt)

    -- with another of its extension
    own_valid : (a t b u : ℕ) (text : List ℕ) → IsOwn host extensible (pieces_of written) x.piece a →
        t ≡ in_union host extensible (pieces_of written) k a → b < x.piece.grammar.terminals →
        u ≡ in_union host extensible (pieces_of written) k b → R t u text → V t → V u → ⊥
    own_valid a t b u text mine t_is less u_is r vt vu =
        with_valid host extensible own written certified apart prefix k x at a b text mine less
        (moved host extensible own written certified apart prefix t u (piece_row host extensible own written k x a)
        (piece_row host extensible own written k x b) text (piece_is a t mine.within t_is) (piece_is b u less u_is) r)
        (subst V t_is vt) (subst V u_is vu)

    -- a marker, with a terminal of the host, with layout, and with another marker of its extension
    marker_host : (m t u : ℕ) (text : List ℕ) → IsMarkerRow host extensible own x m →
        t ≡ in_union host extensible (pieces_of written) k m → u < host.terminals → R t u text → ⊥
    marker_host m t u text marker t_is less r =
        with_marker host extensible own written certified apart prefix k x at m u text marker (inl less)
        (moved host extensible own written certified apart prefix t u (piece_row host extensible own written k x m)
        (piece_row host extensible own written k x u) text (piece_is m t (marker_own k x at m marker).1 t_is) (piece_host u less) r)

    marker_layout : (m t b u : ℕ) (text : List ℕ) → IsMarkerRow host extensible own x m →
        t ≡ in_union host extensible (pieces_of written) k m → L b → u ≡ host_row host extensible own written b → R t u text → ⊥
    marker_layout m t b u text marker t_is layout_is u_is r =
        with_marker host extensible own written certified apart prefix k x at m (row_up host own x b) text marker
        (inr (inl (layout_within host extensible own written certified apart prefix k x at b layout_is)))
        (moved host extensible own written certified apart prefix t u (piece_row host extensible own written k x m)
        (piece_row host extensible own written k x (row_up host own x b)) text
        (piece_is m t (marker_own k x at m marker).1 t_is) (piece_layout b u u_is) r)

    pub marker_marker : (m t n u : ℕ) (text : List ℕ) → IsMarkerRow host extensible own x m →
        t ≡ in_union host extensible (pieces_of written) k m → IsMarkerRow host extensible own x n →
        u ≡ in_union host extensible (pieces_of written) k n → R t u text → ⊥
    marker_marker m t n u text marker t_is other u_is r =
        with_marker host extensible own written certified apart prefix k x at m n text marker (inr (inr other))
        (moved host extensible own written certified apart prefix t u (piece_row host extensible own written k x m)
        (piece_row host extensible own written k x n) text (piece_is m t (marker_own k x at m marker).1 t_is)
        (piece_is n u (marker_own k x at n other).1 u_is) r)

    -- layout of the extension's own, with a terminal of its grammar, and with layout of the host
    valid_layout : (a t b u : ℕ) (text : List ℕ) → a < x.piece.grammar.terminals → t ≡ in_union host extensible (pieces_of written) k a →
        IsOwnLayoutRow host own x b → u ≡ piece_row host extensible own written k x b → Holds k x → R t u text → V t → ⊥
    valid_layout a t b u text less t_is is u_is held r vt =
        own_layout_valid host extensible own written certified apart prefix k x at a b text less is held
        (moved host extensible own written certified apart prefix t u (piece_row host extensible own written k x a)
        (piece_row host extensible own written k x b) text (piece_is a t less t_is) u_is r)
        (subst V t_is vt)

    host_layout : (a t b u : ℕ) (text : List ℕ) → L a → t ≡ host_row host extensible own written a → IsOwnLayoutRow host own x b →
        u ≡ piece_row host extensible own written k x b → Holds k x → R t u text → ⊥
    host_layout a t b u text layout_is t_is is u_is held r =
        own_layout_host host extensible own written certified apart prefix k x at a b text layout_is is held
        (moved host extensible own written certified apart prefix t u (piece_row host extensible own written k x (row_up host own x a))
        (piece_row host extensible own written k x b) text (piece_layout a t t_is) u_is r)

    host_valid : (t b u : ℕ) (text : List ℕ) → t < host.terminals → IsOwnLayoutRow host own x b →
        u ≡ piece_row host extensible own written k x b → Holds k x → R t u text → V t → ⊥
    host_valid t b u text less is u_is held r vt =
        valid_layout t t b u text (within t less)
        (piece_host t less ∙ sym (row_is host extensible own written certified.are_pieces k x at t (within t less))) is u_is held r vt

  -- a marker that shares a text with a terminal or layout of another extension is withdrawn
  other_extension : (k l : ℕ) (x y : WrittenPiece) (t u b : ℕ) (text : List ℕ) → l ≢ k → IsMarkerOf host extensible own written k x t →
      slice_get written l ≡ Some y → IsOwnRow host own y b → u ≡ piece_row host extensible own written l y b → R t u text →
      IsWithdrawn host extensible own written t
  other_extension k l x y t u b text differ marker there mine u_is r = record {
    k = k;
    x = x;
    marker = marker;
    rival = u;
    of_other = record { other = l; extension = y; listed = there; different = differ; terminal = b; own_row = mine; is = u_is };
    share = record { text = text; one_reads = r.one_reads; other_reads = r.other_reads };
  }

  -- an extension's terminal that is no marker, with another extension's or its own
  two_own : (k l : ℕ) (x y : WrittenPiece) (a t b u : ℕ) (text : List ℕ) → slice_get written k ≡ Some x → slice_get written l ≡ Some y →
      IsOwn host extensible (pieces_of written) x.piece a → IsOwn host extensible (pieces_of written) y.piece b →
      t ≡ in_union host extensible (pieces_of written) k a → u ≡ in_union host extensible (pieces_of written) l b → R t u text → V t →
      V u → ⊥
  two_own k l x y a t b u text at there mine other t_is u_is r vt vu = elim (cases_eq k l) [
    | inl same ↦
        own_valid k x at a t b u text mine t_is
        (subst (λ (z : WrittenPiece). b < z.piece.grammar.terminals) (one_piece k l x y at there same) other.within)
        (u_is ∙ ap (λ z. in_union host extensible (pieces_of written) z b) (sym same)) r vt vu
    | inr differ ↦
        (the_law host extensible own written certified apart prefix).of_two k l x.piece y.piece
        (piece_there host extensible own written certified.are_pieces k x at)
        (piece_there host extensible own written certified.are_pieces l y there) differ a b mine other
        (together host extensible own written certified apart prefix (in_union host extensible (pieces_of written) k a)
        (in_union host extensible (pieces_of written) l b) (subst V t_is vt) (subst V u_is vu))
  ]

  own_marker : (k l : ℕ) (x y : WrittenPiece) (a t u : ℕ) (text : List ℕ) → slice_get written k ≡ Some x →
      IsOwn host extensible (pieces_of written) x.piece a → t ≡ in_union host extensible (pieces_of written) k a →
      (marker : IsMarkerOf host extensible own written l y u) → ¬ IsWithdrawn host extensible own written u → R t u text → V t → V u → ⊥
  own_marker k l x y a t u text at mine t_is marker kept r vt vu = elim (cases_eq k l) [
    | inl same ↦
        own_valid k x at a t marker.terminal u text mine t_is
        (subst (λ (z : WrittenPiece). marker.terminal < z.piece.grammar.terminals) (one_piece k l x y at marker.listed same)
        (marker_own l y marker.listed marker.terminal marker.marker).1)
        (marker.is ∙ ap (λ z. in_union host extensible (pieces_of written) z marker.terminal) (sym same)) r vt vu
    | inr differ ↦
        kept (other_extension l k y x u t a text differ marker at (inl (mine.own, mine.within)) (piece_is k x at a t mine.within t_is)
        (turned host extensible own written certified apart prefix r))
  ]

  two_markers : (k l : ℕ) (x y : WrittenPiece) (t u : ℕ) (text : List ℕ) → (one : IsMarkerOf host extensible own written k x t) →
      ¬ IsWithdrawn host extensible own written t → (other : IsMarkerOf host extensible own written l y u) → R t u text → ⊥
  two_markers k l x y t u text one kept other r = elim (cases_eq k l) [
    | inl same ↦
        marker_marker k x one.listed one.terminal t other.terminal u text one.marker one.is
        (subst (λ z. IsMarkerRow host extensible own z other.terminal) (one_piece k l x y one.listed other.listed same) other.marker)
        (other.is ∙ ap (λ z. in_union host extensible (pieces_of written) z other.terminal) (sym same)) r
    | inr differ ↦
        kept (other_extension k l x y t u other.terminal text (λ e. differ (sym e)) one other.listed
        (inl (marker_own l y other.listed other.terminal other.marker))
        (piece_is l y other.listed other.terminal u (marker_own l y other.listed other.terminal other.marker).1 other.is) r)
  ]

  -- layout of an extension's own, with another extension's or its own: a terminal that is no marker, a marker, and layout
  own_beside : (k l : ℕ) (x y : WrittenPiece) (a t b u : ℕ) (text : List ℕ) → slice_get written k ≡ Some x → slice_get written l ≡ Some y →
      IsOwn host extensible (pieces_of written) x.piece a → t ≡ in_union host extensible (pieces_of written) k a →
      IsOwnLayoutRow host own y b → u ≡ piece_row host extensible own written l y b → Holds l y → R t u text → V t → ⊥
  own_beside k l x y a t b u text at there mine t_is is u_is held r vt = elim (cases_eq l k) [
    | inl same ↦
        valid_layout l y there a t b u text
        (subst (λ (z : WrittenPiece). a < z.piece.grammar.terminals) (one_piece l k y x there at same) mine.within)
        (t_is ∙ ap (λ z. in_union host extensible (pieces_of written) z a) (sym same)) is u_is held r vt
    | inr differ ↦
        (the_held host extensible own written certified apart prefix).apart l k y.piece x.piece
        (piece_there host extensible own written certified.are_pieces l y there)
        (piece_there host extensible own written certified.are_pieces k x at) differ prefix held a mine (subst V t_is vt)
  ]

  marker_beside : (k l : ℕ) (x y : WrittenPiece) (t b u : ℕ) (text : List ℕ) → (marker : IsMarkerOf host extensible own written k x t) →
      ¬ IsWithdrawn host extensible own written t → slice_get written l ≡ Some y → IsOwnLayoutRow host own y b →
      u ≡ piece_row host extensible own written l y b → Holds l y → R t u text → V t → ⊥
  marker_beside k l x y t b u text marker kept there is u_is held r vt = elim (cases_eq l k) [
    | inl same ↦
        valid_layout l y there marker.terminal t b u text
        (subst (λ (z : WrittenPiece). marker.terminal < z.piece.grammar.terminals) (one_piece l k y x there marker.listed same)
        (marker_own k x marker.listed marker.terminal marker.marker).1)
        (marker.is ∙ ap (λ z. in_union host extensible (pieces_of written) z marker.terminal) (sym same)) is u_is held r vt
    | inr differ ↦ kept (other_extension k l x y t u b text differ marker there (inr is) u_is r)
  ]

  two_layouts : (k l : ℕ) (x y : WrittenPiece) (a t b u : ℕ) (text : List ℕ) → slice_get written k ≡ Some x → slice_get written l ≡ Some y →
      IsOwnLayoutRow host own x a → t ≡ piece_row host extensible own written k x a → Holds k x → IsOwnLayoutRow host own y b →
      u ≡ piece_row host extensible own written l y b → Holds l y → R t u text → ⊥
  two_layouts k l x y a t b u text at there a_is t_is held b_is u_is other_held r =
      own_layouts_both host extensible own written certified apart prefix k x at a b text a_is
      (subst (λ z. IsOwnLayoutRow host own z b) y_is b_is) held
      (moved host extensible own written certified apart prefix t u (piece_row host extensible own written k x a)
      (piece_row host extensible own written k x b) text t_is
      (u_is ∙ (λ z. piece_row host extensible own written (sym same z) (y_is z) b)) r)
    where
      same : k ≡ l
      same = (the_held host extensible own written certified apart prefix).one k l x.piece y.piece
          (piece_there host extensible own written certified.are_pieces k x at)
          (piece_there host extensible own written certified.are_pieces l y there) prefix held other_held

      y_is : y ≡ x
      y_is = one_piece k l x y at there same

  -- two bare forms aren't rivals
  pub two_bare : (t u : ℕ) (text : List ℕ) → BareRow host extensible own written certified apart prefix t →
      BareRow host extensible own written certified apart prefix u → R t u text → ⊥
  two_bare t u text (of_host t_less vt) (of_host u_less vu) r =
      with_host host extensible own written certified apart prefix t u u text t_less u_less
      (moved host extensible own written certified apart prefix t u (host_row host extensible own written t)
      (host_row host extensible own written u) text (host_is t t_less) (host_is u u_less) r) vt vu (inl refl)
  two_bare t u text (of_host t_less vt) (of_layout b is u_is) r =
      with_host host extensible own written certified apart prefix t b t text t_less t_less
      (moved host extensible own written certified apart prefix t u (host_row host extensible own written t)
      (host_row host extensible own written b) text (host_is t t_less) u_is r) vt vt (inr is)
  two_bare t u text (of_host t_less vt) (of_extension k x a at mine u_is vu) r =
      own_host k x at a u t text mine u_is t_less (turned host extensible own written certified apart prefix r) vu vt
  two_bare t u text (of_host t_less vt) (of_marker k x marker kept vu) r =
      marker_host k x marker.listed marker.terminal u t text marker.marker marker.is t_less
      (turned host extensible own written certified apart prefix r)
  two_bare t u text (of_host t_less vt) (of_own_layout k x b at is u_is held) r = host_valid k x at t b u text t_less is u_is held r vt
  two_bare t u text (of_layout b is t_is) (of_host u_less vu) r =
      with_host host extensible own written certified apart prefix u b u text u_less u_less
      (moved host extensible own written certified apart prefix u t (host_row host extensible own written u)
      (host_row host extensible own written b) text (host_is u u_less) t_is (turned host extensible own written certified apart prefix r))
      vu vu (inr is)
  two_bare t u text (of_layout b is t_is) (of_layout c also u_is) r =
      layouts host extensible own written certified apart prefix b c text is also
      (moved host extensible own written certified apart prefix t u (host_row host extensible own written b)
      (host_row host extensible own written c) text t_is u_is r)
  two_bare t u text (of_layout b is t_is) (of_extension k x a at mine u_is vu) r =
      own_layout k x at a u b t text mine u_is is t_is (turned host extensible own written certified apart prefix r) vu
  two_bare t u text (of_layout b is t_is) (of_marker k x marker kept vu) r =
      marker_layout k x marker.listed marker.terminal u b t text marker.marker marker.is is t_is
      (turned host extensible own written certified apart prefix r)
  two_bare t u text (of_layout b layout_is t_is) (of_own_layout k x c at is u_is held) r =
      host_layout k x at b t c u text layout_is t_is is u_is held r
  two_bare t u text (of_extension k x a at mine t_is vt) (of_host u_less vu) r = own_host k x at a t u text mine t_is u_less r vt vu
  two_bare t u text (of_extension k x a at mine t_is vt) (of_layout b is u_is) r =
      own_layout k x at a t b u text mine t_is is u_is r vt
  two_bare t u text (of_extension k x a at mine t_is vt) (of_extension l y b there other u_is vu) r =
      two_own k l x y a t b u text at there mine other t_is u_is r vt vu
  two_bare t u text (of_extension k x a at mine t_is vt) (of_marker l y marker kept vu) r =
      own_marker k l x y a t u text at mine t_is marker kept r vt vu
  two_bare t u text (of_extension k x a at mine t_is vt) (of_own_layout l y b there is u_is held) r =
      own_beside k l x y a t b u text at there mine t_is is u_is held r vt
  two_bare t u text (of_marker k x marker kept vt) (of_host u_less vu) r =
      marker_host k x marker.listed marker.terminal t u text marker.marker marker.is u_less r
  two_bare t u text (of_marker k x marker kept vt) (of_layout b is u_is) r =
      marker_layout k x marker.listed marker.terminal t b u text marker.marker marker.is is u_is r
  two_bare t u text (of_marker k x marker kept vt) (of_extension l y b there other u_is vu) r =
      own_marker l k y x b u t text there other u_is marker kept (turned host extensible own written certified apart prefix r) vu vt
  two_bare t u text (of_marker k x marker kept vt) (of_marker l y other also vu) r = two_markers k l x y t u text marker kept other r
  two_bare t u text (of_marker k x marker kept vt) (of_own_layout l y b there is u_is held) r =
      marker_beside k l x y t b u text marker kept there is u_is held r vt
  two_bare t u text (of_own_layout k x a at is t_is held) (of_host u_less vu) r =
      host_valid k x at u a t text u_less is t_is held (turned host extensible own written certified apart prefix r) vu
  two_bare t u text (of_own_layout k x a at is t_is held) (of_layout b layout_is u_is) r =
      host_layout k x at b u a t text layout_is u_is is t_is held (turned host extensible own written certified apart prefix r)
  two_bare t u text (of_own_layout k x a at is t_is held) (of_extension l y b there mine u_is vu) r =
      own_beside l k y x b u a t text there at mine u_is is t_is held (turned host extensible own written certified apart prefix r) vu
  two_bare t u text (of_own_layout k x a at is t_is held) (of_marker l y marker kept vu) r =
      marker_beside l k y x u a t text marker kept at is t_is held (turned host extensible own written certified apart prefix r) vu
  two_bare t u text (of_own_layout k x a at is t_is held) (of_own_layout l y b there also u_is other_held) r =
      two_layouts k l x y a t b u text at there is t_is held also u_is other_held r
