-- Two bare forms that are considered at one prefix of the union and match one text are ordered.
use Rattle.std.proofs.Common.{◌≡◌, ◌<◌, ◌≤◌, ◌+◌, ◌∙◌, ◌⊎◌, [], ℕ, List, Some, length, length-append, slice_get, sym, ap, subst, inl}
use Rattle.std.proofs.Common.{inr, arith}
use Rattle.wb_base.specs.declared.symbol.Symbol.{Symbol}
use Rattle.wb_base.specs.Grammar.{GrammarView}
use Rattle.wb_determinism_contexts.specs.Considered.{IsConsideredAt, LexiconView}
use Rattle.wb_grammar_theory.specs.Items.{HoldsFrom, IsViablePrefix, start, start_item}
use Rattle.wb_grammar_theory.specs.Lookaheads.{IsValidTerminal}
use Rattle.wb_grammar_theory.specs.Productions.{end_of}
use Rattle.wb_marking_holes.specs.Holes.{with_holes_of}
use Rattle.wb_compose_theory_language.specs.Envelopes.{IsConsideredInEnvelope}
use Rattle.wb_compose_theory.specs.Numbered.{HostKernel, IsNewHostKernel, IsValidInEnvelope}
use Rattle.wb_termset.specs.Sets.{IsMember}
use Rattle.wb_compose_theory_grammar.specs.Certificates.{AreCertified}
use Rattle.wb_compose_theory_grammar.specs.Laws.{AreHostApart, HasTogether, IsOwn, IsTogether, in_union}
use Rattle.wb_compose_theory_grammar.specs.Numberings.{up_of}
use Rattle.wb_compose_theory_grammar.specs.Pieces.{Piece}
use Rattle.wb_compose_theory.specs.Blocks.{lift}
use Rattle.wb_compose_theory_grammar.specs.Unions.{added_productions, added_terminals}
use Rattle.wb_compose_theory_grammar.specs.UnitedWorlds.{united}
use Rattle.wb_compose_theory_grammar.proofs.BridgeLemmas.{piece_ok}
use Rattle.wb_compose_theory_grammar.proofs.FactLemmas.{map_at}
use Rattle.wb_compose_theory_grammar.proofs.PlaceLemmas.{lift_below, lift_past}
use Rattle.wb_compose_theory_grammar.proofs.TogetherLemmas.{has_together}
use Rattle.wb_compose_theory_layout.specs.Extensions.{HasHeld, HoldsExtension, HoldsOwn}
use Rattle.wb_compose_theory_layout.proofs.HeldLemmas.{has_held}
use Rattle.wb_compose_theory_language.specs.Written.{IsHostLayoutRow, IsLayoutRow, IsOwnLayoutRow, WrittenPiece, host_layouts, own_layouts}
use Rattle.wb_compose_theory_language.specs.Written.{pieces_of, row_up}
use Rattle.wb_compose_theory_language.specs.Apart.{AreWrittenApart, IsMarkerRow, IsRivalRow}
use Rattle.wb_compose_theory_language.specs.Forms.{IsMarkerOf, IsWithdrawn}
use Rattle.wb_compose_theory_language.specs.Rows.{host_row, piece_row}
use Rattle.wb_compose_theory_language.proofs.ClashLemmas.{AreRivals, envelope_viable, no_clash_beside, no_clash_enveloped, no_clash_in_host}
use Rattle.wb_compose_theory_language.proofs.ClashLemmas.{piece_orders, swapped, valid_viable}
use Rattle.wb_compose_theory_language.proofs.PreferenceLemmas.{apart_at}
use Rattle.wb_compose_theory_language.proofs.ReadLemmas.{reads_piece}
use Rattle.wb_compose_theory_language.proofs.RowLemmas.{more, piece_there, up_row}

module _ (host : GrammarView) (extensible : List ℕ) (own : LexiconView) (written : List WrittenPiece)
    (certified : AreCertified host extensible (pieces_of written)) (apart : AreWrittenApart host extensible own written)
    (prefix : List Symbol) where
  -- the terminal is valid at the prefix
  abbrev pub IsValidHere : ℕ → Type 0
  IsValidHere t = IsValidTerminal (united host extensible (pieces_of written)) prefix t

  -- the number is that of layout of the host, among the host's own rows
  abbrev pub IsLayoutHere : ℕ → Type 0
  IsLayoutHere t = IsHostLayoutRow host.terminals (host_layouts host own) t

  -- what has a bare form that is considered at the prefix: a terminal of the host; one of an extension that is no marker; a marker that
  -- isn't withdrawn; layout of the host; and layout of an extension of which the kernel holds an item
  pub data BareRow (number : ℕ) : Type 0 where
    of_host : number < host.terminals → IsValidHere number → BareRow number
    of_extension : (k : ℕ) (x : WrittenPiece) (t : ℕ) → slice_get written k ≡ Some x → IsOwn host extensible (pieces_of written) x.piece t →
        number ≡ in_union host extensible (pieces_of written) k t → IsValidHere number → BareRow number
    of_marker : (k : ℕ) (x : WrittenPiece) → IsMarkerOf host extensible own written k x number →
        ¬ IsWithdrawn host extensible own written number → IsValidHere number → BareRow number
    of_layout : (t : ℕ) → IsLayoutHere t → number ≡ host_row host extensible own written t → BareRow number
    of_own_layout : (k : ℕ) (x : WrittenPiece) (t : ℕ) → slice_get written k ≡ Some x → IsOwnLayoutRow host own x t →
        number ≡ piece_row host extensible own written k x t → HoldsExtension host extensible (pieces_of written) k x.piece prefix →
        BareRow number

  -- both match the text, and nothing orders them
  abbrev pub Rivals : ℕ → ℕ → List ℕ → Type 0
  Rivals one other text = AreRivals host extensible own written certified.are_pieces apart one other text

  pub turned : {one other : ℕ} {text : List ℕ} → Rivals one other text → Rivals other one text
  turned r = record {
    different = λ e. r.different (sym e);
    one_reads = r.other_reads;
    other_reads = r.one_reads;
    unordered = λ o. r.unordered (swapped host extensible own written certified.are_pieces apart o);
  }

  -- rivals by equal numbers
  pub moved : (one other a b : ℕ) (text : List ℕ) → one ≡ a → other ≡ b → Rivals one other text → Rivals a b text
  moved one other a b text one_is other_is r =
      subst (λ z. Rivals z b text) one_is (subst (λ z. Rivals one z text) other_is r)

  -- two terminals that are valid at the prefix
  pub together : (t u : ℕ) → IsValidHere t → IsValidHere u → IsTogether host extensible (pieces_of written) t u
  together t u vt vu = record { prefix = prefix; left = vt; right = vu }

  pub the_law : HasTogether host extensible (pieces_of written)
  the_law = has_together host extensible (pieces_of written) certified

  pub host_scanned : (t : ℕ) → t < host.terminals → t < own.scanned
  host_scanned t less = let e = apart.of_host.clear.rows.scanned in omega (arith, e, less)

  is_host_layout : (t : ℕ) → IsLayoutHere t → IsMember own.layout t
  is_host_layout t is = (apart.of_host.clear.rows.layout t).1 is

  pub the_held : HasHeld host extensible (pieces_of written)
  the_held = has_held host extensible (pieces_of written) certified

  -- an extension's piece
  module _ (k : ℕ) (x : WrittenPiece) (at : slice_get written k ≡ Some x) where
    there : slice_get (pieces_of written) k ≡ Some (x.piece)
    there = piece_there host extensible own written certified.are_pieces k x at

    scanned : (t : ℕ) → t < x.piece.grammar.terminals → t < x.lexicon.scanned
    scanned t less = let e = (apart_at host extensible own written certified.are_pieces apart k x at).clear.rows.scanned in
        omega (arith, e, less)

    -- layout of the host is layout there
    pub layout_row : (t : ℕ) → IsLayoutHere t → IsHostLayoutRow x.piece.grammar.terminals (host_layouts host own) (row_up host own x t)
    layout_row t (low, high) =
        let le = more host extensible own written certified.are_pieces k x at in
        let up = lift_past host.terminals (added_terminals host x.piece.grammar) t low in
        let stays = lift_below (x.piece.grammar.terminals + host_layouts host own) (own_layouts host own x)
        (lift host.terminals (added_terminals host x.piece.grammar) t) (omega (arith, up, le, high)) in
        (omega (arith, up, stays, le, low), omega (arith, up, stays, le, high))

    pub layout_within : (t : ℕ) → IsLayoutHere t → IsLayoutRow x.piece.grammar.terminals x.lexicon (row_up host own x t)
    layout_within t is =
        let all = (apart_at host extensible own written certified.are_pieces apart k x at).clear.rows.no_fewer in
        let (low, high) = layout_row t is in
        (low, omega (arith, high, all))

    pub is_layout : (t : ℕ) → IsLayoutHere t → IsMember x.lexicon.layout (row_up host own x t)
    is_layout t is = ((apart_at host extensible own written certified.are_pieces apart k x at).clear.rows.layout
        (row_up host own x t)).1 (layout_row t is)

    host_up : (t : ℕ) → t < host.terminals → row_up host own x t ≡ t
    host_up t less =
        let le = more host extensible own written certified.are_pieces k x at in
        let here = lift_below host.terminals (added_terminals host x.piece.grammar) t less in
        lift_below (x.piece.grammar.terminals + host_layouts host own) (own_layouts host own x)
        (lift host.terminals (added_terminals host x.piece.grammar) t) (omega (arith, here, less, le)) ∙ here

    in_grammar : (t : ℕ) → t < host.terminals → t < x.piece.grammar.terminals
    in_grammar t less = let le = more host extensible own written certified.are_pieces k x at in omega (arith, less, le)

    -- a terminal of the extension that is no marker, with what else is considered where it is valid
    pub with_own : (t u : ℕ) (text : List ℕ) → IsOwn host extensible (pieces_of written) x.piece t →
        ((other : List Symbol) → IsValidTerminal (with_holes_of x.piece.grammar extensible) other t →
        IsConsideredAt (with_holes_of x.piece.grammar extensible) x.lexicon other u) →
        Rivals (piece_row host extensible own written k x t) (piece_row host extensible own written k x u) text →
        IsValidHere (in_union host extensible (pieces_of written) k t) → ⊥
    with_own t u text mine beside rivals vt = the_law.of_extension k x.piece there t t mine mine.within (together
        (in_union host extensible (pieces_of written) k t) (in_union host extensible (pieces_of written) k t) vt vt)
        (λ other v w. no_clash_beside host extensible own written certified.are_pieces apart k x at t u text rivals
        other (valid_viable (with_holes_of x.piece.grammar extensible) other t v) (inl (scanned t mine.within, v)) (beside other v))

    -- the same where it must be valid too
    pub with_valid : (t u : ℕ) (text : List ℕ) → IsOwn host extensible (pieces_of written) x.piece t → u < x.piece.grammar.terminals →
        Rivals (piece_row host extensible own written k x t) (piece_row host extensible own written k x u) text →
        IsValidHere (in_union host extensible (pieces_of written) k t) →
        IsValidHere (in_union host extensible (pieces_of written) k u) → ⊥
    with_valid t u text mine less rivals vt vu = the_law.of_extension k x.piece there t u mine less (together
        (in_union host extensible (pieces_of written) k t) (in_union host extensible (pieces_of written) k u) vt vu)
        (λ other v w. no_clash_beside host extensible own written certified.are_pieces apart k x at t u text rivals other
        (valid_viable (with_holes_of x.piece.grammar extensible) other t v)
        (inl (scanned t mine.within, v)) (inl (scanned u less, w)))

    -- a marker of the extension with a rival of it
    pub with_marker : (m u : ℕ) (text : List ℕ) → IsMarkerRow host extensible own x m → IsRivalRow host extensible own x u →
        Rivals (piece_row host extensible own written k x m)
        (piece_row host extensible own written k x u) text → ⊥
    with_marker m u text marker rival r =
        (apart_at host extensible own written certified.are_pieces apart k x at).markers m u text marker rival
        (λ e. r.different (ap (piece_row host extensible own written k x) e))
        (reads_piece host extensible own written certified.are_pieces apart k x at m text r.one_reads)
        (reads_piece host extensible own written certified.are_pieces apart k x at u text r.other_reads)
        (λ o. r.unordered (piece_orders host extensible own written certified.are_pieces apart k x at m u o))

    -- the productions by which its layout is considered are its own
    added_are : length host.productions + added_productions host x.piece.grammar ≡ length x.piece.grammar.productions
    added_are =
        let (rest, is) = (piece_ok host extensible (pieces_of written) certified.are_pieces k x.piece there).extends.productions in
        let whole : length x.piece.grammar.productions ≡ length host.productions + length rest =
        ap length is ∙ length-append host.productions rest in
        omega (arith, whole)

    holds_here : (other : List Symbol) → HoldsOwn host extensible (pieces_of written) x.piece other →
        HoldsFrom (with_holes_of x.piece.grammar extensible) other x.lexicon.own_productions.0 x.lexicon.own_productions.1
    holds_here other (i, kernel, low, high) =
        let are = (apart_at host extensible own written certified.are_pieces apart k x at).beside.productions in
        let whole = added_are in (
          i,
          kernel,
          subst (λ (z : ℕ × ℕ). z.0 ≤ i.production) (sym are) low,
          subst (λ (z : ℕ × ℕ). i.production < z.1) (sym are) (omega (arith, high, whole)),
        )

    holds_viable : (other : List Symbol) → HoldsOwn host extensible (pieces_of written) x.piece other →
        IsViablePrefix (with_holes_of x.piece.grammar extensible) other
    holds_viable other (i, kernel, low, high) = (i, kernel.0.0, kernel.0.1)

    is_own_layout : (other : List Symbol) → HoldsOwn host extensible (pieces_of written) x.piece other → (b : ℕ) →
        IsOwnLayoutRow host own x b → IsConsideredAt (with_holes_of x.piece.grammar extensible) x.lexicon other b
    is_own_layout other holds b is =
        inr (inr (
          ((apart_at host extensible own written certified.are_pieces apart k x at).clear.rows.own_layout b).1 is,
          holds_here other holds,
        ))

    -- layout of the extension's own, where the kernel holds an item of the extension: with a terminal that is valid there
    pub own_layout_valid : (t b : ℕ) (text : List ℕ) → t < x.piece.grammar.terminals → IsOwnLayoutRow host own x b →
        HoldsExtension host extensible (pieces_of written) k x.piece prefix →
        Rivals (piece_row host extensible own written k x t) (piece_row host extensible own written k x b) text →
        IsValidHere (in_union host extensible (pieces_of written) k t) → ⊥
    own_layout_valid t b text less is held rivals vt =
        let (other, v, holds) = the_held.valid k x.piece there prefix held t less vt in
        no_clash_beside host extensible own written certified.are_pieces apart k x at t b text rivals other
        (holds_viable other holds) (inl (scanned t less, v)) (is_own_layout other holds b is)

    -- with layout of the host
    pub own_layout_host : (t b : ℕ) (text : List ℕ) → IsLayoutHere t → IsOwnLayoutRow host own x b →
        HoldsExtension host extensible (pieces_of written) k x.piece prefix →
        Rivals (piece_row host extensible own written k x (row_up host own x t)) (piece_row host extensible own written k x b) text → ⊥
    own_layout_host t b text layout_is is held rivals =
        let (other, holds) = the_held.held k x.piece there prefix held in
        no_clash_beside host extensible own written certified.are_pieces apart k x at (row_up host own x t) b text
        rivals other (holds_viable other holds) (inr (inl (is_layout t layout_is)))
        (is_own_layout other holds b is)

    -- and with another of its own
    pub own_layouts_both : (t b : ℕ) (text : List ℕ) → IsOwnLayoutRow host own x t → IsOwnLayoutRow host own x b →
        HoldsExtension host extensible (pieces_of written) k x.piece prefix →
        Rivals (piece_row host extensible own written k x t) (piece_row host extensible own written k x b) text → ⊥
    own_layouts_both t b text t_is b_is held rivals =
        let (other, holds) = the_held.held k x.piece there prefix held in
        no_clash_beside host extensible own written certified.are_pieces apart k x at t b text rivals other
        (holds_viable other holds) (is_own_layout other holds t t_is) (is_own_layout other holds b b_is)

  -- two terminals are nowhere valid together in the host with holes, in the grammar of an extension, or in an envelope there
  abbrev ApartIn : Piece → ℕ → ℕ → Type 0
  ApartIn p t u =
      (other : List Symbol) → IsValidTerminal (with_holes_of p.grammar extensible) other t →
      ¬ IsValidTerminal (with_holes_of p.grammar extensible) other u

  abbrev ApartEnveloped : Piece → ℕ → ℕ → Type 0
  ApartEnveloped p t u =
      (other : List Symbol) →
      IsNewHostKernel (with_holes_of host extensible) (with_holes_of p.grammar extensible) (up_of host p.grammar) other →
      IsValidInEnvelope (with_holes_of host extensible)
      (HostKernel (with_holes_of p.grammar extensible) (up_of host p.grammar) other) t →
      ¬ IsValidInEnvelope (with_holes_of host extensible) (HostKernel (with_holes_of p.grammar extensible) (up_of host p.grammar) other) u

  host_apart : (t u : ℕ) →
      ((other : List Symbol) → IsValidTerminal (with_holes_of host extensible) other t →
      ¬ IsValidTerminal (with_holes_of host extensible) other u) →
      ((k : ℕ) (x : WrittenPiece) → slice_get written k ≡ Some x → ApartIn x.piece t u) →
      ((k : ℕ) (x : WrittenPiece) → slice_get written k ≡ Some x → ApartEnveloped x.piece t u) →
      AreHostApart host extensible (pieces_of written) t u
  host_apart t u at_host at_extension at_envelope = record {
    in_host = at_host;
    in_extension = λ k p at. (let (x, there, is) = map_at (λ (y : WrittenPiece). y.piece) written k p at in
        subst (λ z. ApartIn z t u) (sym is) (at_extension k x there));
    in_envelope = λ k p at. (let (x, there, is) = map_at (λ (y : WrittenPiece). y.piece) written k p at in
        subst (λ z. ApartEnveloped z t u) (sym is) (at_envelope k x there));
  }

  -- rivals of the host, in the numbers of an extension with it
  rivals_up : (k : ℕ) (x : WrittenPiece) → slice_get written k ≡ Some x → (t u : ℕ) (text : List ℕ) →
      Rivals (host_row host extensible own written t) (host_row host extensible own written u) text →
      Rivals (piece_row host extensible own written k x (row_up host own x t))
      (piece_row host extensible own written k x (row_up host own x u)) text
  rivals_up k x at t u text r =
      moved (host_row host extensible own written t) (host_row host extensible own written u)
      (piece_row host extensible own written k x (row_up host own x t)) (piece_row host extensible own written k x (row_up host own x u)) text
      (sym (up_row host extensible own written certified.are_pieces k x at t))
      (sym (up_row host extensible own written certified.are_pieces k x at u)) r

  -- a terminal of the host, with what else is considered where it is valid: another terminal that is valid there, or layout
  pub with_host : (t u v : ℕ) (text : List ℕ) → t < host.terminals → v < host.terminals →
      Rivals (host_row host extensible own written t) (host_row host extensible own written u) text → IsValidHere t → IsValidHere v →
      (u ≡ v) ⊎ IsLayoutHere u → ⊥
  with_host t u v text t_less v_less r vt vv which =
      the_law.of_host t v t_less v_less (together t v vt vv) (host_apart t v
      (λ other a b. no_clash_in_host host extensible own written certified.are_pieces apart t u text r other
      (valid_viable (with_holes_of host extensible) other t a) (inl (host_scanned t t_less, a)) (in_host other b which))
      (λ k x at other a b. no_clash_beside host extensible own written certified.are_pieces apart k x at (row_up host own x t)
      (row_up host own x u) text (rivals_up k x at t u text r) other
      (valid_viable (with_holes_of x.piece.grammar extensible) other t a)
      (subst (IsConsideredAt (with_holes_of x.piece.grammar extensible) x.lexicon other) (sym (host_up k x at t t_less))
      (inl (scanned k x at t (in_grammar k x at t t_less), a)))
      (in_extension k x at other b which))
      (λ k x at other new a b. no_clash_enveloped host extensible own written certified.are_pieces apart k x at (row_up host own x t)
      (row_up host own x u) text (rivals_up k x at t u text r) other
      (envelope_viable (with_holes_of host extensible) (with_holes_of x.piece.grammar extensible) x host other t a) new
      (subst (IsConsideredInEnvelope (with_holes_of host extensible)
      (HostKernel (with_holes_of x.piece.grammar extensible) (up_of host x.piece.grammar) other)
      (record (x.lexicon) { scanned = host.terminals })) (sym (host_up k x at t t_less)) (inl (t_less, a)))
      (in_envelope k x at other b which)))
    where
      in_host : (other : List Symbol) → IsValidTerminal (with_holes_of host extensible) other v →
          (u ≡ v) ⊎ IsLayoutHere u → IsConsideredAt (with_holes_of host extensible) own other u
      in_host other b (inl same) = subst (IsConsideredAt (with_holes_of host extensible) own other) (sym same)
          (inl (host_scanned v v_less, b))
      in_host other b (inr is) = inr (inl (is_host_layout u is))

      in_extension : (k : ℕ) (x : WrittenPiece) → slice_get written k ≡ Some x → (other : List Symbol) →
          IsValidTerminal (with_holes_of x.piece.grammar extensible) other v →
          (u ≡ v) ⊎ IsLayoutHere u →
          IsConsideredAt (with_holes_of x.piece.grammar extensible) x.lexicon other (row_up host own x u)
      in_extension k x at other b (inl same) =
          subst (IsConsideredAt (with_holes_of x.piece.grammar extensible) x.lexicon other)
          (sym (ap (row_up host own x) same ∙ host_up k x at v v_less)) (inl (scanned k x at v (in_grammar k x at v v_less), b))
      in_extension k x at other b (inr is) = inr (inl (is_layout k x at u is))

      in_envelope : (k : ℕ) (x : WrittenPiece) → slice_get written k ≡ Some x → (other : List Symbol) →
          IsValidInEnvelope (with_holes_of host extensible)
          (HostKernel (with_holes_of x.piece.grammar extensible) (up_of host x.piece.grammar) other) v →
          (u ≡ v) ⊎ IsLayoutHere u →
          IsConsideredInEnvelope (with_holes_of host extensible)
          (HostKernel (with_holes_of x.piece.grammar extensible) (up_of host x.piece.grammar) other)
          (record (x.lexicon) { scanned = host.terminals }) (row_up host own x u)
      in_envelope k x at other b (inl same) =
          subst (IsConsideredInEnvelope (with_holes_of host extensible)
          (HostKernel (with_holes_of x.piece.grammar extensible) (up_of host x.piece.grammar) other)
          (record (x.lexicon) { scanned = host.terminals })) (sym (ap (row_up host own x) same ∙ host_up k x at v v_less)) (inl (v_less, b))
      in_envelope k x at other b (inr is) = inr (is_layout k x at u is)

  -- two layouts of the host
  pub layouts : (t u : ℕ) (text : List ℕ) → IsLayoutHere t → IsLayoutHere u →
      Rivals (host_row host extensible own written t) (host_row host extensible own written u) text → ⊥
  layouts t u text t_is u_is r =
      no_clash_in_host host extensible own written certified.are_pieces apart t u text r []
      (start_item (with_holes_of host extensible), end_of (with_holes_of host extensible), start) (inr (inl (is_host_layout t t_is)))
      (inr (inl (is_host_layout u u_is)))
