-- The markers of a union by number are its marking terminals.
use Rattle.std.proofs.Common.{◌≡◌, ◌<◌, ◌+◌, ◌-◌, ◌∙◌, ◌∷◌, [], ℕ, Bool, true, false, List, Option, Some, All, inl, inr, length, None, map}
use Rattle.std.proofs.Common.{replicate, slice_get, take, ap, refl, sym, subst, arith}
use Rattle.std.specs.Prelude.{IsTrue}
use Rattle.std.proofs.lemmas.List.{length-drop, length-map, length-replicate, length-take-le}
use Rattle.std.proofs.lemmas.List.Elements.{All-head, All-tail}
use Rattle.wb_lemmas.proofs.Elements.{all_at}
use Rattle.wb_lemmas.proofs.Places.{append_after, at_append, at_take}
use Rattle.wb_base.specs.Grammar.{GrammarView}
use Rattle.wb_termset.specs.Sets.{IsMember}
use Rattle.wb_termset.proofs.CallerLemmas.{IsEmpty-replicate}
use Rattle.wb_operations.specs.Operations.{OperationSignature}
use Rattle.wb_syntax_resolved.specs.declared.resolved.ResolvedParts.{ResolvedParts}
use Rattle.wb_syntax_resolved.specs.declared.terminal.Terminal.{Terminal}
use Rattle.wb_syntax_resolved.specs.Resolved.{IsResolved}
use Rattle.wb_compose_theory.specs.Worlds.{bare, on}
use Rattle.wb_compose_theory_grammar.specs.Bridges.{bridge_in_list, mark_by}
use Rattle.wb_compose_theory_grammar.specs.Laws.{in_union}
use Rattle.wb_compose_theory_grammar.specs.Places.{count_before}
use Rattle.wb_compose_theory_grammar.specs.UnitedWorlds.{terminal_sizes}
use Rattle.wb_compose_theory_grammar.proofs.FactLemmas.{at_map, map_at}
use Rattle.wb_compose_theory_grammar.proofs.PlaceLemmas.{lift_past}
use Rattle.wb_compose_theory_grammar.proofs.ProductionLemmas.{drop_at}
use Rattle.wb_compose.specs.Apart.{IsMarkerRow}
use Rattle.wb_compose.specs.WrittenLanguages.{pieces_of}
use Rattle.wb_reading.specs.OrderedNames.{all_of}
use Rattle.wb_compose.specs.DeterminismImages.{is_marker_row, is_marking}
use Rattle.wb_compose.specs.Lexicons.{lexicon_of}
use Rattle.wb_compose.specs.Kept.{AreCertifiedBoth}
use Rattle.wb_compose.specs.Joined.{Extended}
use Rattle.wb_compose.specs.Written.{written_in, written_with}
use Rattle.wb_compose.proofs.BridgedLemmas.{certified_is_bridged}
use Rattle.wb_compose.proofs.ImageLemmas.{bridge_listed}
use Rattle.wb_compose.proofs.JoinedLemmas.{markers_are}
use Rattle.wb_certify_shown.specs.Names.{terminals_in}
use Rattle.wb_certify_shown.proofs.HoleLemmas.{few_terminals}
use Rattle.wb_compose_texts.proofs.NameLemmas.{resolved_in}
use Rattle.wb_reading.specs.MarkingTerminals.{AreMarking, IsMarking}
use Rattle.wb_compose_texts.specs.UnionMarkers.{AreUnionMarkers, added_markers, grammar_markers, union_markers}
use Rattle.wb_compose_texts.proofs.BlockLemmas.{at_flag, block_at, flag_at, in_block, take_keeps}

-- whether a terminal is a marker
abbrev is_marker_at : ResolvedParts → ℕ → Bool
is_marker_at r n = is_marker_row (slice_get r.terminals n)

-- there is a flag for each terminal of a grammar
flags_len : (r : ResolvedParts) → IsResolved r → length (grammar_markers r) ≡ terminals_in r.grammar
flags_len r whole = length-map (take (terminals_in r.grammar) r.terminals) (λ (t : Terminal). is_marking t.kind) ∙
    length-take-le (terminals_in r.grammar) r.terminals (few_terminals r whole)

-- a flag is that of the terminal of its number
flag_row : (r : ResolvedParts) (n : ℕ) → slice_get (grammar_markers r) n ≡ Some true → IsTrue (is_marker_at r n)
flag_row r n at =
    let (row, there, is) = map_at (λ (t : Terminal). is_marking t.kind) (take (terminals_in r.grammar) r.terminals) n true at in
    ap is_marker_row (at_take r.terminals (terminals_in r.grammar) n row there).1 ∙ sym is

row_flag : (r : ResolvedParts) (n : ℕ) → n < terminals_in r.grammar → IsTrue (is_marker_at r n) →
    slice_get (grammar_markers r) n ≡ Some true
row_flag r n within is_marker = go (slice_get r.terminals n) refl is_marker
  where
    go : (o : Option Terminal) → slice_get r.terminals n ≡ o → is_marker_row o ≡ true → slice_get (grammar_markers r) n ≡ Some true
    go None is e = absurd (cc e)
    go (Some row) is e =
        at_map (λ (t : Terminal). is_marking t.kind) (take (terminals_in r.grammar) r.terminals) n row
        (take_keeps r.terminals (terminals_in r.grammar) n row within is) ∙ ap Some e

-- what is marked is a marker
marked_true : (b : Bool) (o : Option (ℕ × ℕ)) (a : ℕ) → mark_by b o ≡ on a → IsTrue b
marked_true true o a is = refl
marked_true false o a is = let bad : bare ≡ on a = is in absurd (cc bad)

module _ (host : ResolvedParts) (h : GrammarView) (operations : List OperationSignature) where
  abbrev pub Both : Extended → Type 0
  Both e = AreCertifiedBoth host e.resolved h e.grammar operations

  -- a marker of a certified extension has its mark, and nothing else has one
  module _ (e : Extended) (both : Both e) where
    marker_to : (n : ℕ) → IsTrue (is_marker_at e.resolved n) →
        IsMarkerRow h host.extensible (lexicon_of host h) (written_with h e.resolved e.grammar) n
    marker_to n is_marker =
        let (p, a, is, listed) = bridge_listed host e.resolved h e.grammar operations
        (certified_is_bridged host e.resolved h e.grammar operations both) n is_marker in
        (a, ap (λ z. mark_by z (bridge_in_list 0 n e.grammar.productions)) is_marker ∙ ap (mark_by true) is)

    marker_from : (n : ℕ) → IsMarkerRow h host.extensible (lexicon_of host h) (written_with h e.resolved e.grammar) n →
        IsTrue (is_marker_at e.resolved n)
    marker_from n (a, is) = marked_true (is_marker_at e.resolved n) (bridge_in_list 0 n e.grammar.productions) a is

  module _ (start : host.grammar ≡ Some h) where
    -- each extension has a flag for each terminal that it adds
    pub flag_lens : (xs : List Extended) → All Both xs →
        map length (map (added_markers host) (resolved_in xs)) ≡ terminal_sizes h host.extensible (pieces_of (written_in h xs))
    flag_lens [] each = refl
    flag_lens (e ∷ xs) each =
        let both = All-head Both e xs each in
        let len : length (added_markers host e.resolved) ≡ e.grammar.terminals - h.terminals =
        length-drop (terminals_in host.grammar) (grammar_markers e.resolved) ∙
        (λ z. (flags_len e.resolved both.resolved ∙ ap terminals_in both.start) z - ap terminals_in start z) in
        λ z. len z ∷ flag_lens xs (All-tail Both e xs each) z

    module _ (xs : List Extended) (each : All Both xs) where
      abbrev rs : List ResolvedParts
      rs = resolved_in xs

      abbrev blocks : List (List Bool)
      blocks = map (added_markers host) rs

      abbrev own : List Bool
      own = replicate (terminals_in host.grammar) false

      own_len : length own ≡ h.terminals
      own_len = length-replicate (terminals_in host.grammar) false ∙ ap terminals_in start

      -- where a terminal of an extension is
      place_is : (k i : ℕ) → in_union h host.extensible (pieces_of (written_in h xs)) k (h.terminals + i) ≡
          length own + (count_before (map length blocks) k + i)
      place_is k i =
          let up = lift_past h.terminals (count_before (terminal_sizes h host.extensible (pieces_of (written_in h xs))) k) (h.terminals + i)
          (omega arith) in
          let before = ap (λ z. count_before z k) (flag_lens xs each) in
          let len = own_len in
          omega (arith, up, before, len)

      to : (t : ℕ) → IsMember (union_markers host rs) t → IsMarking h host.extensible (lexicon_of host h) (written_in h xs) t
      to t has = elim (at_append own (all_of blocks) true t (flag_at (union_markers host rs) t has)) [
        | inl here ↦ absurd (IsEmpty-replicate (terminals_in host.grammar) t (at_flag own t here))
        | inr (j, is, there) ↦
            let b = in_block blocks j true there in
            let (r, r_at, block_is) = map_at (added_markers host) rs b.k b.block b.listed in
            let (e, e_at, r_is) = map_at (λ (e : Extended). e.resolved) xs b.k r r_at in
            let at : slice_get (added_markers host e.resolved) b.i ≡ Some true =
            ap (λ z. slice_get (added_markers host z) b.i) (sym r_is) ∙ (ap (λ z. slice_get z b.i) (sym block_is) ∙ b.here) in
            let moved : h.terminals + b.i ≡ terminals_in host.grammar + b.i = ap (λ z. terminals_in z + b.i) (sym start) in
            let flag : slice_get (grammar_markers e.resolved) (h.terminals + b.i) ≡ Some true =
            ap (slice_get (grammar_markers e.resolved)) moved ∙
            (sym (drop_at (terminals_in host.grammar) b.i (grammar_markers e.resolved)) ∙ at) in
            record {
              k = b.k;
              x = written_with h e.resolved e.grammar;
              of_extension = record {
                listed = at_map (λ (e : Extended). written_with h e.resolved e.grammar) xs b.k e e_at;
                terminal = h.terminals + b.i;
                marker = marker_to e (all_at Both xs b.k e each e_at) (h.terminals + b.i) (flag_row e.resolved (h.terminals + b.i) flag);
                is = is ∙ (ap (λ z. length own + z) b.place ∙ sym (place_is b.k b.i));
              };
            }
      ]

      from : (t : ℕ) → IsMarking h host.extensible (lexicon_of host h) (written_in h xs) t → IsMember (union_markers host rs) t
      from t m =
          let (e, e_at, x_is) = map_at (λ (e : Extended). written_with h e.resolved e.grammar) xs m.k m.x m.of_extension.listed in
          let both = all_at Both xs m.k e each e_at in
          let n = m.of_extension.terminal in
          let marks = marker_from e both n (subst (λ z. IsMarkerRow h host.extensible
          (lexicon_of host h) z n) x_is m.of_extension.marker) in
          let markers = markers_are host e.resolved h e.grammar operations both in
          let low = markers.own n marks in
          let high = subst (λ z. n < z) (sym (ap terminals_in both.start)) (markers.within n marks) in
          let n_is : h.terminals + (n - h.terminals) ≡ n = omega (arith, low) in
          let moved : terminals_in host.grammar + (n - h.terminals) ≡ n = ap (λ z. terminals_in z + (n - h.terminals)) start ∙ n_is in
          let flag : slice_get (added_markers host e.resolved) (n - h.terminals) ≡ Some true =
          drop_at (terminals_in host.grammar) (n - h.terminals) (grammar_markers e.resolved) ∙
          (ap (slice_get (grammar_markers e.resolved)) moved ∙ row_flag e.resolved n high marks) in
          let r_at = at_map (λ (e : Extended). e.resolved) xs m.k e e_at in
          let listed = at_map (added_markers host) rs m.k e.resolved r_at in
          let there = block_at blocks m.k (n - h.terminals) (added_markers host e.resolved) true listed flag in
          let t_is : t ≡ length own + (count_before (map length blocks) m.k + (n - h.terminals)) =
          m.of_extension.is ∙ (ap (in_union h host.extensible (pieces_of (written_in h xs)) m.k) (sym n_is) ∙
          place_is m.k (n - h.terminals)) in
          at_flag (union_markers host rs) t (ap (slice_get (union_markers host rs)) t_is ∙
          (append_after own (all_of blocks) (count_before (map length blocks) m.k + (n - h.terminals)) ∙ there))

      -- a set with the markers by number has the marking terminals
      pub are_marking : (markers : List Bool) → AreUnionMarkers host rs markers →
          AreMarking h host.extensible (lexicon_of host h) (written_in h xs) markers
      are_marking markers is t = (λ has. to t ((is t).0 has), λ m. (is t).1 (from t m))
