-- What is scanned with an extension is what its host scans, and what the extension adds; and its markers are told apart.
use Rattle.std.proofs.Common.{◌≡◌, ◌≢◌, ◌≤◌, ◌<◌, ◌+◌, ◌-◌, ◌⊎◌, inl, inr, ℕ, suc, zero, Bool, true, false, List, Some, length}
use Rattle.std.proofs.Common.{slice_get, ap, refl, sym, subst, ◌∙◌, arith}
use Rattle.std.specs.Prelude.{IsTrue}
use Rattle.std.proofs.lemmas.Bool.{cases_lt}
use Rattle.wb_lemmas.proofs.Elements.{all_at}
use Rattle.wb_lemmas.proofs.Places.{at_once, at_within}
use Rattle.wb_automata.specs.Automata.{IsMatch}
use Rattle.wb_base.specs.Grammar.{GrammarView}
use Rattle.wb_compose_theory.specs.Blocks.{lift}
use Rattle.wb_compose_theory_grammar.proofs.PlaceLemmas.{lift_below, lift_past}
use Rattle.wb_compose_theory_grammar.specs.Bridges.{bridge_in_list, mark_by}
use Rattle.wb_compose_theory_grammar.specs.Numberings.{image_of, phi_of, up_of}
use Rattle.wb_determinism_contexts.proofs.OrderLemmas.{ordered_stable}
use Rattle.wb_determinism_host.specs.Lexicons.{lexicon_beside, lexicon_of, preference_pairs}
use Rattle.wb_determinism_host.proofs.LayoutLemmas as layouts
use Rattle.wb_determinism_theory.specs.Lexicons.{AreMarkersTold, ExtendsLexicon, IsBesideMarkers}
use Rattle.wb_lexical.specs.Clash.{AreOrdered}
use Rattle.wb_marking.specs.Clashes.{AreRivals, HasNoMarkerClash, IsRival}
use Rattle.wb_marking.specs.Markers.{IsMarker}
use Rattle.wb_regex.specs.Matches.{Matches}
use Rattle.wb_regex.specs.Tree.{Tree}
use Rattle.wb_syntax_resolved.specs.declared.resolved.ResolvedParts.{ResolvedParts}
use Rattle.wb_syntax_resolved.specs.declared.terminal.Terminal.{Terminal}
use Rattle.wb_syntax_resolved.specs.declared.terminal.TerminalKind.{TerminalKind}
use Rattle.wb_syntax_resolved.specs.declared.terminal.TerminalKind.TheVariants.{Plain, Ignore, Marking}
use Rattle.wb_syntax_resolved.specs.Resolved.{IsNamedTerminal}
use Rattle.wb_termset.specs.Sets.{IsMember}
use Rattle.wb_determinism_beside.specs.Given.{AreScannedBeside}
use Rattle.wb_determinism_beside.specs.Pieces.{IsExtendedBy, is_marker_in, piece_in}
use Rattle.wb_determinism_beside.proofs.InRange.{grammar_of}
use Rattle.wb_determinism_beside.proofs.KeptLemmas.{more_terminals}
use Rattle.wb_determinism_beside.proofs.LayoutRows.{from_map, layout_at, past_layout, row_layout}
use Rattle.wb_determinism_beside.proofs.MarkerLemmas.{row_marker}
use Rattle.wb_determinism_beside.proofs.RowLemmas.{map_at}
use Rattle.wb_determinism_beside.proofs.WrittenPreferences.{preferred}
use Rattle.wb_determinism_beside.proofs.WrittenRows.{RowUp, host_owner, host_place, not_own_place, row_down, row_up, up_below}

-- the expression of a row
abbrev pattern_of : Terminal → Tree
pattern_of t = t.pattern

-- a terminal that stands for another is a marker
marker_moves : (extensible : List ℕ) (r : ResolvedParts) (g : GrammarView) (m : ℕ) → phi_of extensible (piece_in r g) m ≢ m
    → IsTrue (is_marker_in r m)
marker_moves extensible r g m ne = by (is_marker_in r m) refl
  where
    by : (b : Bool) → is_marker_in r m ≡ b → is_marker_in r m ≡ true
    by true e = e
    by false e =
        absurd (ne (ap (λ b. image_of extensible (piece_in r g) (mark_by b (bridge_in_list 0 m g.productions)) m) e))

-- a marker isn't plain
not_plain : (kind : TerminalKind) → kind ≡ Marking → kind ≢ Plain
not_plain kind is e = let bad : Marking ≡ Plain = sym is ∙ e in cc

module _ (host r : ResolvedParts) (h g : GrammarView) (is : IsExtendedBy host r h g) where
  abbrev up : ℕ → ℕ
  up t = lift h.terminals (g.terminals - h.terminals) t

  row_of : (u : ℕ) (was : Terminal) → slice_get host.terminals u ≡ Some was
      → RowUp host r is.spec is.names is.host_resolved is.resolved h g is.host_start is.start is.alone u was
  row_of = row_up host r is.spec is.names is.host_resolved is.resolved h g is.host_start is.start is.alone

  -- what is scanned of the host, or its layout, is at one of its rows
  host_row : (u : ℕ) → (u < h.terminals) ⊎ IsMember (lexicon_of host h).layout u → (was : Terminal) × (slice_get host.terminals u ≡ Some was)
  host_row u (inl below) =
      at_within host.terminals u
      (let least = (grammar_of host h is.host_resolved is.host_start).terminals_len in omega (arith, below, least))
  host_row u (inr has) = (let l = layout_at host h is.host_resolved is.host_start u has in (l.row, l.at))

  -- it matches the same texts there
  same_pattern : (u : ℕ) → (u < h.terminals) ⊎ IsMember (lexicon_of host h).layout u → (text : List ℕ)
      → IsMatch (lexicon_of r g).expressions (up u) text → IsMatch (lexicon_of host h).expressions u text
  same_pattern u of_host text there =
      let (was, at) = host_row u of_host in
      let x = row_of u was at in
      let (row, row_at, tree_is) = from_map pattern_of r.terminals (up u) there.tree there.at in
      let same : row ≡ x.row = at_once r.terminals (up u) row x.row row_at x.there in
      record {
        tree = was.pattern;
        at = map_at pattern_of host.terminals u was at;
        matches = subst (λ z. Matches z text) (sym tree_is ∙ (ap pattern_of same ∙ x.moved.pattern)) there.matches;
      }

  -- what comes past the terminals was past the host's
  far_down : (t u : ℕ) → t ≡ up u → g.terminals ≤ t → h.terminals ≤ u
  far_down t u t_is past = elim (cases_lt u h.terminals) [
    | inl below ↦
        (let more = more_terminals host r is.spec is.names is.host_resolved is.resolved h g is.host_start is.start in
        let moved = up_below host r is.spec is.names is.host_resolved is.resolved h g is.host_start is.start is.alone u below in
        let here : t ≡ u = t_is ∙ moved in
        absurd (omega (arith, below, more, here, past)))
    | inr far ↦ far
  ]

  kept_order : (t u : ℕ) → AreOrdered (lexicon_of host h).preferences t u → AreOrdered (lexicon_of r g).preferences (up t) (up u)
  kept_order t u (inl has) =
      inl (preferred host r is.spec is.names is.host_resolved is.resolved h g is.host_start is.start is.alone t u has)
  kept_order t u (inr has) =
      inr (preferred host r is.spec is.names is.host_resolved is.resolved h g is.host_start is.start is.alone u t has)

  -- no production of the host is the extension's
  no_own : (p : ℕ) → length h.productions ≤ lift (length h.productions) (length g.productions - length h.productions) p
      → ¬ (lift (length h.productions) (length g.productions - length h.productions) p < length g.productions)
  no_own p from to = elim (cases_lt p (length h.productions)) [
    | inl below ↦
        (let here = lift_below (length h.productions) (length g.productions - length h.productions) p below in
        omega (arith, below, here, from))
    | inr far ↦
        (let here = lift_past (length h.productions) (length g.productions - length h.productions) p far in
        omega (arith, far, here, to))
  ]

  pub extends_lexicon : ExtendsLexicon (lexicon_of host h) (lexicon_beside r g (length h.productions)) (up_of h g)
      (phi_of r.extensible (piece_in r g))
  extends_lexicon = record {
    scanned = λ u less. elim (cases_lt u h.terminals) [
      | inl below ↦ below
      | inr far ↦
          (let moved = lift_past h.terminals (g.terminals - h.terminals) u far in
          let more : u + (g.terminals - h.terminals) < g.terminals = subst (λ z. z < g.terminals) moved less in
          absurd (omega (arith, more, far)))
    ];
    layout = λ t has.
        (let (row, at, kind, none) = layouts.host_row r.terminals t has in
        let past = past_layout r g is.resolved is.start t row at Ignore kind refl in
        let place =
        host_place host r is.spec is.names is.host_resolved is.resolved h g is.host_start is.start is.alone t row at none in
        let x = row_down host r is.spec is.names is.host_resolved is.resolved h g is.host_start is.start is.alone t row at place in (
          x.number,
          x.place,
          row_layout host h is.host_resolved is.host_start x.number x.was x.there (far_down t x.number x.place past),
        ));
    own = no_own;
    matches = same_pattern;
    ordered = kept_order;
  }

  -- the owner of a marker is the extension
  marker_owner : (t : ℕ) (m : IsMarker r t) → m.terminal.owner ≡ 1
  marker_owner t m =
      let named = all_at (IsNamedTerminal r) r.terminals t m.terminal is.resolved.terminals m.is in
      let most = named.owner in
      let many = ap (λ (xs : List (List ℕ)). length xs) is.names.value.extensions in
      by m.terminal.owner refl (named.marking m.marking) (omega (arith, most, many))
    where
      by : (n : ℕ) → m.terminal.owner ≡ n → m.terminal.owner ≢ 0 → m.terminal.owner ≤ 1 → m.terminal.owner ≡ 1
      by zero e other few = absurd (other e)
      by (suc n) e other few = omega (arith, e, few)

  -- a terminal beside markers is a rival of each other marker
  rival : (m t : ℕ) → (own : IsMarker r m) → (row : Terminal) → slice_get r.terminals t ≡ Some row
      → IsBesideMarkers (lexicon_of host h) (lexicon_beside r g (length h.productions)) (up_of h g) (phi_of r.extensible (piece_in r g)) t
      → IsRival own.terminal row
  rival m t own row at (inl (u, t_is, below)) =
      let least = (grammar_of host h is.host_resolved is.host_start).terminals_len in
      inl (host_owner host r is.spec is.names is.host_resolved is.resolved h g is.host_start is.start is.alone t row at
      (not_own_place host r is.spec is.names is.host_resolved is.resolved h g is.host_start is.start is.alone u t
      (omega (arith, below, least)) t_is))
  rival m t own row at (inr (inl skipped)) =
      let (other, there, kind, none) = layouts.host_row r.terminals t skipped in
      inl (ap (λ (z : Terminal). z.owner) (at_once r.terminals t row other at there) ∙ none)
  rival m t own row at (inr (inr ne)) =
      let other = row_marker r t (marker_moves r.extensible r g t ne) in
      let same : row ≡ other.terminal = at_once r.terminals t row other.terminal at other.is in
      inr (
        ap (λ (z : Terminal). z.owner) same ∙ (marker_owner t other ∙ sym (marker_owner m own)),
        not_plain row.kind (ap (λ (z : Terminal). z.kind) same ∙ other.marking),
      )

  pub are_told : HasNoMarkerClash r →
      AreMarkersTold (lexicon_of host h) (lexicon_beside r g (length h.productions)) (up_of h g) (phi_of r.extensible (piece_in r g))
  are_told clear m t text ne differ beside own_is other_is =
      let own = row_marker r m (marker_moves r.extensible r g m ne) in
      let (mine, mine_at, mine_is) = from_map pattern_of r.terminals m own_is.tree own_is.at in
      let (row, at, tree_is) = from_map pattern_of r.terminals t other_is.tree other_is.at in
      let same : mine ≡ own.terminal = at_once r.terminals m mine own.terminal mine_at own.is in
      let rivals : AreRivals r m t = record {
        own = own.terminal;
        own_is = own.is;
        marking = own.marking;
        rival = row;
        rival_is = at;
        is_rival = rival m t own row at beside;
        different = differ;
      } in
      ordered_stable (preference_pairs r) m t (λ none. clear m t text (record {
        rivals = rivals;
        own_matches = subst (λ z. Matches z text) (sym mine_is ∙ ap pattern_of same) own_is.matches;
        rival_matches = subst (λ z. Matches z text) (sym tree_is) other_is.matches;
        unordered = none;
      }))

  -- both
  pub are_scanned : HasNoMarkerClash r → AreScannedBeside r g h (lexicon_of host h)
  are_scanned clear = record { extends = extends_lexicon; told = are_told clear }
