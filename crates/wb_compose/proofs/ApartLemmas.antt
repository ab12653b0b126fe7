-- How a certified extension is written beside its host: no clash at its prefixes and envelopes, and markers that are ordered.
use Rattle.std.proofs.Common.{◌≡◌, inl, inr, [], ℕ, zero, suc, Bool, true, false, List, Option, Some, None, length, map, slice_get}
use Rattle.std.proofs.Common.{ap, refl, sym, subst, ◌∙◌, arith}
use Rattle.std.specs.Prelude.{slice_index_or}
use Rattle.std.proofs.lemmas.Option.{same_Some}
use Rattle.wb_base.specs.declared.symbol.Symbol.{Symbol}
use Rattle.wb_base.specs.Grammar.{GrammarView}
use Rattle.wb_base.specs.Identifiers.{IsName}
use Rattle.wb_determinism_contexts.specs.Considered.{HasNoClashAt, LexiconView}
use Rattle.wb_certify.specs.DeterministicHosts.{AreAcyclic}
use Rattle.wb_certify.specs.Lexicons.{is_host_layout, lexicon_beside, lexicon_of}
use Rattle.wb_certify.specs.EnvelopeClash.{HasNoEnvelopeClash, IsEnvelopeClash}
use Rattle.wb_certify.specs.determinism_numbers.Numbers.{Numbers}
use Rattle.wb_certify.specs.DeterminismImages.{is_marker_row, is_marking}
use Rattle.wb_certify.specs.DeterminismNumbers.{production_up, up_by}
use Rattle.wb_grammar_theory.specs.declared.item.Item.{Item}
use Rattle.wb_grammar_theory.specs.Items.{IsKernelItem}
use Rattle.wb_lemmas.proofs.Elements.{all_at}
use Rattle.wb_lemmas.proofs.Places.{default_at}
use Rattle.wb_marking_holes.specs.Holes.{with_holes_of}
use Rattle.wb_marking.specs.Clashes.{HasNoMarkerClash, IsRival}
use Rattle.wb_certify.specs.Resolving.{ResolvesExtension}
use Rattle.wb_regex.specs.Matches.{Matches}
use Rattle.wb_syntax_resolved.specs.declared.resolved.ResolvedParts.{ResolvedParts}
use Rattle.wb_syntax_resolved.specs.declared.terminal.Terminal.{Terminal}
use Rattle.wb_syntax_resolved.specs.declared.terminal.TerminalKind.{TerminalKind}
use Rattle.wb_syntax_resolved.specs.declared.terminal.TerminalKind.TheVariants.{Plain, Ignore, Marking}
use Rattle.wb_syntax_resolved.specs.Resolved.{IsNamedTerminal, IsResolved}
use Rattle.wb_syntax.specs.SpecText.{SpecView}
use Rattle.wb_compose_theory.specs.Numbered.{HostKernel, IsNewHostKernel}
use Rattle.wb_compose_theory.specs.Renamings.{Renaming, renamed_item}
use Rattle.wb_compose_theory.specs.Worlds.{bare, on}
use Rattle.wb_compose_theory_grammar.specs.Bridges.{bridge_in_list, mark_by}
use Rattle.wb_compose_theory_grammar.specs.Numberings.{up_of}
use Rattle.wb_compose_theory_language.specs.Envelopes as forms
use Rattle.wb_compose_theory_language.specs.Apart.{AreMarkersOrdered, HasNoNewClash, IsMarkerRow, IsPieceApart, IsRivalRow}
use Rattle.wb_compose.specs.Written.{written_with}
use Rattle.wb_compose.proofs.WrittenLemmas.{no_colon, of_grammar, pattern_of, rows_beside, written_beside}
use Rattle.wb_certify.proofs.LayoutRows.{from_map, kind_layout, layout_past}
use Rattle.wb_certify.proofs.WrittenRows.{host_owner, not_own_place, own_decided, own_owner, up_below}

-- what is scanned of so many terminals of the host, and the host's layout
abbrev pub host_part : ResolvedParts → GrammarView → ℕ → LexiconView
host_part r g n = record (lexicon_of r g) { scanned = n; layout = map is_host_layout r.terminals }

-- a clash in an envelope in the words of unions, where an extension's layout isn't considered, is one in those of the test
clash_there : (r : ResolvedParts) (g h : GrammarView) (first n : ℕ) (Kernel : Item → Type 0) (left right : ℕ) (text : List ℕ) →
    forms.IsEnvelopeClash h Kernel (record (lexicon_beside r g first) { scanned = n }) left right text →
    IsEnvelopeClash h Kernel (host_part r g n) left right text
clash_there r g h first n Kernel left right text c = record {
  different = c.different;
  left_considered = c.left_considered;
  right_considered = c.right_considered;
  left_matches = c.left_matches;
  right_matches = c.right_matches;
  unordered = c.unordered;
}

-- by the same numbers of productions kernels are new alike
module _ (g k : GrammarView) (up other : Renaming) (productions : (p : ℕ) → up.production p ≡ other.production p) where
  item_same : (i : Item) → renamed_item up i ≡ renamed_item other i
  item_same i = λ z. record { production = productions i.production z; dot = i.dot }

  kernels_same : (prefix : List Symbol) → HostKernel k up prefix ≡ HostKernel k other prefix
  kernels_same prefix = λ z i. IsKernelItem k prefix (item_same i z)

  new_same : (prefix : List Symbol) → IsNewHostKernel g k other prefix → IsNewHostKernel g k up prefix
  new_same prefix new = record {
    within = λ item has. (let (i, e) = new.within item has in (i, e ∙ sym (item_same i)));
    is_new = λ one same. new.is_new one (λ i. (
      λ (m : IsKernelItem g one i). subst (IsKernelItem k prefix) (item_same i) ((same i).0 m),
      λ (m : HostKernel k other prefix i). (same i).1 (subst (IsKernelItem k prefix) (sym (item_same i)) m),
    ));
  }

-- a marker's row is marking
marking_of : (r : ResolvedParts) (o : Option Terminal) → is_marker_row o ≡ true → (row : Terminal) × (o ≡ Some row) × (row.kind ≡ Marking)
marking_of r None e = absurd (cc e)
marking_of r (Some row) e = (row, refl, by row.kind e)
  where
    by : (kind : TerminalKind) → is_marking kind ≡ true → kind ≡ Marking
    by Plain f = absurd (cc f)
    by Ignore f = absurd (cc f)
    by Marking f = refl

module _ (host r : ResolvedParts) (spec : SpecView) (names : ResolvesExtension host spec r) (host_whole : IsResolved host)
    (whole : IsResolved r) (h g : GrammarView) (host_start : host.grammar ≡ Some h) (start : r.grammar ≡ Some g)
    (alone : host.attributes.extensions ≡ []) where
  -- a marker of the extension is a marking row
  marker_row : (t : ℕ) → IsMarkerRow h host.extensible (lexicon_of host h) (written_with h r g) t →
      (row : Terminal) × (slice_get r.terminals t ≡ Some row) × (row.kind ≡ Marking)
  marker_row t (a, mark) = by (is_marker_row (slice_get r.terminals t)) refl
    where
      by : (b : Bool) → is_marker_row (slice_get r.terminals t) ≡ b →
          (row : Terminal) × (slice_get r.terminals t ≡ Some row) × (row.kind ≡ Marking)
      by false e = let bad : bare ≡ on a = sym (ap (λ z. mark_by z (bridge_in_list 0 t g.productions)) e) ∙ mark in absurd (cc bad)
      by true e = marking_of r (slice_get r.terminals t) e

  -- it is the extension's
  marking_owner : (t : ℕ) (row : Terminal) → slice_get r.terminals t ≡ Some row → row.kind ≡ Marking → row.owner ≡ 1
  marking_owner t row at is = by row.owner refl
    where
      named : IsNamedTerminal r row
      named = all_at (IsNamedTerminal r) r.terminals t row whole.terminals at

      by : (o : ℕ) → row.owner ≡ o → row.owner ≡ 1
      by zero e = absurd (named.marking is e)
      by (suc o) e =
          let most = named.owner in
          let many = ap (λ (xs : List (List ℕ)). length xs) names.value.extensions in
          omega (arith, e, most, many)

  -- a rival of a marker is the host's, or no plain terminal of the extension
  rival_row : (own rival : Terminal) (t : ℕ) → own.owner ≡ 1 → slice_get r.terminals t ≡ Some rival →
      IsRivalRow h host.extensible (lexicon_of host h) (written_with h r g) t → IsRival own rival
  rival_row own rival t mine at (inl low) =
      let few = (of_grammar host h host_whole host_start).terminals_len in
      let stays = up_below host r spec names host_whole whole h g host_start start alone t low in
      inl (host_owner host r spec names host_whole whole h g host_start start alone t rival at
      (not_own_place host r spec names host_whole whole h g host_start start alone t t (omega (arith, low, few)) (sym stays)))
  rival_row own rival t mine at (inr (inl (far, under))) =
      elim (own_decided host r spec names host_whole whole h g host_start start alone t) [
        | inl is_own ↦
            let kind_is = kind_layout rival.kind (layout_past r g whole start t rival at rival.kind refl far) in
            let owner_is = own_owner host r spec names host_whole whole h g host_start start alone t rival at is_own in
            inr (owner_is ∙ sym mine, λ plain. let bad : Ignore ≡ Plain = sym kind_is ∙ plain in cc)
        | inr other ↦ inl (host_owner host r spec names host_whole whole h g host_start start alone t rival at other)
      ]
  rival_row own rival t mine at (inr (inr marker)) =
      let (row, there, is) = marker_row t marker in
      let same = same_Some row rival (sym there ∙ at) in
      let kind_is : rival.kind ≡ Marking = subst (λ (z : Terminal). z.kind ≡ Marking) same is in
      inr (marking_owner t rival at kind_is ∙ sym mine, λ plain. let bad : Marking ≡ Plain = sym kind_is ∙ plain in cc)

  -- markers are ordered
  markers_ordered : HasNoMarkerClash r → AreMarkersOrdered h host.extensible (lexicon_of host h) (written_with h r g)
  markers_ordered clear m t text marker rival differ one other out =
      let (own, own_at, marking) = marker_row m marker in
      let (row, row_at, row_is) = from_map pattern_of r.terminals t other.tree other.at in
      let (same, same_at, same_is) = from_map pattern_of r.terminals m one.tree one.at in
      let own_is = same_Some same own (sym same_at ∙ own_at) in
      clear m t text record {
        rivals = record {
          own = own;
          own_is = own_at;
          marking = marking;
          rival = row;
          rival_is = row_at;
          is_rival = rival_row own row t (marking_owner m own own_at marking) row_at rival;
          different = differ;
        };
        own_matches = subst (λ z. Matches z text) (sym same_is ∙ ap pattern_of own_is) one.matches;
        rival_matches = subst (λ z. Matches z text) (sym row_is) other.matches;
        unordered = out;
      }

  -- the name has no colon
  name_is : IsName (slice_index_or r.attributes.extensions 0 [])
  name_is =
      let first : slice_get r.attributes.extensions 0 ≡ Some spec.name =
      ap (λ (xs : List (List ℕ)). slice_get xs 0) names.value.extensions in
      subst IsName (sym (default_at r.attributes.extensions 0 [] spec.name first))
      (all_at IsName r.attributes.extensions 0 spec.name whole.attributes.named.extensions first)

  module _ (m : Numbers) (same : r.extensible ≡ host.extensible)
      (agree : (p : ℕ) → production_up m p ≡ (up_of h g).production p) where
    -- the envelope rule in the words of unions
    no_new_clash : HasNoEnvelopeClash (with_holes_of h host.extensible) (with_holes_of g r.extensible) m (host_part r g h.terminals) →
        HasNoNewClash h host.extensible (lexicon_of host h) (written_with h r g)
    no_new_clash clear prefix left right text viable new clash = there prefix left right text record {
      viable = viable;
      new = new_same (with_holes_of h host.extensible) (with_holes_of g host.extensible) (up_by m) (up_of h g) agree prefix new;
      clash = subst (λ K. IsEnvelopeClash (with_holes_of h host.extensible) K (host_part r g h.terminals) left right text)
          (sym (kernels_same (with_holes_of h host.extensible) (with_holes_of g host.extensible) (up_by m) (up_of h g) agree prefix))
          (clash_there r g (with_holes_of h host.extensible) (length h.productions) h.terminals
          (HostKernel (with_holes_of g host.extensible) (up_of h g) prefix) left right text clash);
    }
      where
        there : HasNoEnvelopeClash (with_holes_of h host.extensible) (with_holes_of g host.extensible) m (host_part r g h.terminals)
        there = subst (λ xs. HasNoEnvelopeClash (with_holes_of h host.extensible) (with_holes_of g xs) m (host_part r g h.terminals)) same
            clear

    -- all of it
    pub piece_apart : AreAcyclic r → HasNoClashAt (with_holes_of g r.extensible) (lexicon_beside r g (length h.productions)) →
        HasNoEnvelopeClash (with_holes_of h host.extensible) (with_holes_of g r.extensible) m (host_part r g h.terminals) →
        HasNoMarkerClash r → IsPieceApart h host.extensible (lexicon_of host h) (written_with h r g)
    piece_apart acyclic no_clash enveloped markers = record {
      clear = record {
        rows = rows_beside host r spec names host_whole whole h g host_start start alone;
        acyclic = acyclic;
      };
      beside = written_beside host r spec names host_whole whole h g host_start start alone (written_with h r g).piece.mark
          (written_with h r g).piece.bridge (written_with h r g).name;
      no_clash = subst (λ xs. HasNoClashAt (with_holes_of g xs) (lexicon_beside r g (length h.productions))) same no_clash;
      no_new_clash = no_new_clash enveloped;
      markers = markers_ordered markers;
      name = no_colon (slice_index_or r.attributes.extensions 0 []) name_is;
    }
