-- Flags of the terminals of a union as they are listed, and the set of them.
use Rattle.std.proofs.Common.{◌≡◌, ◌<◌, ◌≤◌, ◌+◌, ◌-◌, ◌↔◌, ◌++◌, ◌∷◌, ◌∙◌, [], ℕ, Bool, false, List, Some, drop, get_or, length, map}
use Rattle.std.proofs.Common.{replicate, slice_get, take, ap, subst, sym, arith}
use Rattle.std.specs.Prelude.{option_map}
use Rattle.std.proofs.lemmas.List.{length-map, length-replicate, length-take-le, map-append}
use Rattle.std.proofs.lemmas.Option.{slice_get-map}
use Rattle.wb_termset.specs.Sets.{IsMember}
use Rattle.wb_termset.proofs.CallerLemmas.{IsEmpty-replicate, has_below}
use Rattle.wb_lemmas.proofs.Parts.{append_assoc}
use Rattle.wb_lemmas.proofs.Places.{at_take, at_within}
use Rattle.wb_compose.specs.Kept.{ExtensionView}
use Rattle.wb_certify_shown.specs.Names.{terminals_in}
use Rattle.wb_certify_shown.proofs.HoleLemmas.{few_terminals}
use Rattle.wb_compose_texts.specs.Unions.{all_resolved}
use Rattle.wb_compose_texts.proofs.TableLemmas.{all_next, part_next, resolved_next}
use Rattle.wb_reading.specs.OrderedNames.{all_of}
use Rattle.wb_compose.specs.DeterminismImages.{is_marker_row, is_marking}
use Rattle.wb_compose_texts.specs.UnionMarkers.{added_markers, grammar_markers}
use Rattle.wb_compose_texts.specs.Inner.Sets.{IsFilled}
use Rattle.wb_syntax_resolved.specs.Resolved.{IsResolved}
use Rattle.wb_syntax_resolved.specs.declared.resolved.ResolvedParts.{ResolvedParts}
use Rattle.wb_syntax_resolved.specs.declared.terminal.Terminal.{Terminal}

module _ (r : ResolvedParts) (whole : IsResolved r) where
  -- each of the grammar's terminals has a flag
  pub flags_len : length (grammar_markers r) ≡ terminals_in r.grammar
  flags_len = length-map (take (terminals_in r.grammar) r.terminals) (λ (t : Terminal). is_marking t.kind) ∙
      length-take-le (terminals_in r.grammar) r.terminals (few_terminals r whole)

  -- its own
  flag_is : (k : ℕ) → k < terminals_in r.grammar → slice_get (grammar_markers r) k ≡ Some (is_marker_row (slice_get r.terminals k))
  flag_is k below =
      let inside = length-take-le (terminals_in r.grammar) r.terminals (few_terminals r whole) in
      let found = at_within (take (terminals_in r.grammar) r.terminals) k (omega (arith, below, inside)) in
      let row = (at_take r.terminals (terminals_in r.grammar) k found.0 found.1).1 in
      slice_get-map (λ (t : Terminal). is_marking t.kind) (take (terminals_in r.grammar) r.terminals) k ∙
      (ap (option_map (λ (t : Terminal). is_marking t.kind)) found.1 ∙ ap Some (sym (ap is_marker_row row)))

  -- one flag more
  pub flag_next : (old now new : List Bool) (from k : ℕ) (flag : Bool) → from ≤ k → k < terminals_in r.grammar →
      now ≡ old ++ take (k - from) (drop from (grammar_markers r)) → flag ≡ is_marker_row (slice_get r.terminals k) →
      new ≡ now ++ flag ∷ [] → new ≡ old ++ take (k + 1 - from) (drop from (grammar_markers r))
  flag_next old now new from k flag above below was is pushed =
      pushed ∙ ((λ z. was z ++ is z ∷ []) ∙
      (append_assoc old (take (k - from) (drop from (grammar_markers r))) (is_marker_row (slice_get r.terminals k) ∷ []) ∙
      ap (λ z. old ++ z) (sym (part_next (grammar_markers r) from k (is_marker_row (slice_get r.terminals k)) above (flag_is k below)))))

-- one extension more
pub block_next : (host : ResolvedParts) (es : List ExtensionView) (i : ℕ) (e : ExtensionView) (r : ResolvedParts) (own : ℕ)
    (old now new : List Bool) → i < length es → e ≡ get_or es i e → r ≡ e.resolved → own ≡ terminals_in host.grammar →
    now ≡ old ++ all_of (map (added_markers host) (all_resolved (take i es))) → new ≡ now ++ drop own (grammar_markers r) →
    new ≡ old ++ all_of (map (added_markers host) (all_resolved (take (i + 1) es)))
block_next host es i e r own old now new less is resolved own_is was more =
    let rs = all_resolved (take i es) in
    let blocks : map (added_markers host) (all_resolved (take (i + 1) es)) ≡ map (added_markers host) rs ++ added_markers host r ∷ [] =
    ap (map (added_markers host)) (resolved_next es i e r less is resolved) ∙ map-append (added_markers host) rs (r ∷ []) in
    more ∙ ((λ z. was z ++ drop (own_is z) (grammar_markers r)) ∙
    (append_assoc old (all_of (map (added_markers host) rs)) (added_markers host r) ∙
    ap (λ z. old ++ z) (sym (ap all_of blocks ∙ all_next (map (added_markers host) rs) (added_markers host r)))))

-- a set without members is filled by no flags
pub none_filled : (flags : List Bool) (made : List Bool) → made ≡ replicate (length flags) false → IsFilled flags 0 made
none_filled flags made is = record {
  len = ap length is ∙ length-replicate (length flags) false;
  each = λ t. (
    λ has. absurd (IsEmpty-replicate (length flags) t (subst (λ s. IsMember s t) is has)),
    λ both. absurd (omega (arith, both.0)),
  );
}

-- all are in
pub all_filled : (flags : List Bool) (i : ℕ) (made : List Bool) → length flags ≤ i → IsFilled flags i made → (t : ℕ) →
    IsMember made t ↔ IsMember flags t
all_filled flags i made past was t = (
  λ has. ((was.each t).0 has).1,
  λ has. (let low = has_below flags t has in (was.each t).1 (omega (arith, low, past), has)),
)
