-- What is known of a host after each test.
use Rattle.std.proofs.Common.{◌≡◌, ◌≤◌, ◌∙◌, ℕ, Some, IfSome, All, length, map, slice_get, refl, sym, subst, arith}
use Rattle.std.proofs.lemmas.List.{length-map}
use Rattle.std.specs.Prelude.{Option, None, option_map}
use Rattle.std.proofs.lemmas.Option.{slice_get_within, slice_get-map, same_Some}
use Rattle.wb_base.specs.Grammar.{GrammarView}
use Rattle.wb_determinism_contexts.specs.Sets.{FitsGrammar}
use Rattle.wb_grammar.specs.Facts.{FactsView, AreFacts}
use Rattle.wb_graph.specs.Graphs.{IsEdgeBelow}
use Rattle.wb_lemmas.proofs.Elements.{all_at, all_from_places}
use Rattle.wb_marking_holes.specs.Holes.{with_holes_of}
use Rattle.wb_syntax_resolved.specs.declared.resolved.ResolvedParts.{ResolvedParts}
use Rattle.wb_syntax_resolved.specs.declared.terminal.Preference.{Preference}
use Rattle.wb_syntax_resolved.specs.declared.terminal.Terminal.{Terminal}
use Rattle.wb_syntax_resolved.specs.Grammar.{IsGrammarOf}
use Rattle.wb_syntax_resolved.specs.Resolved.{IsNamedPreference}
use Rattle.wb_determinism_host.specs.Hosts.{IsSound, IsFitForParsing}
use Rattle.wb_determinism_host.specs.HostGrammar.{HasGrammar}
use Rattle.wb_determinism_host.specs.Inner.Lists.{everywhere, lexicon_in, own}
use Rattle.wb_determinism_host.specs.Lexicons.{is_layout_of, preference_pairs}

-- the facts of the grammar with holes say that it is fit
pub fit_of : (r : ResolvedParts) (g holes : GrammarView) (facts : FactsView) → IsSound r g → holes ≡ with_holes_of g r.extensible
    → AreFacts holes facts → IsFitForParsing r g
fit_of r g holes facts sound is are = record {
  sound = sound;
  no_unit_cycle = here.no_unit_cycle;
  no_hidden_left_recursion = here.no_hidden_left_recursion;
}
  where
    here : AreFacts (with_holes_of g r.extensible) facts
    here = subst (λ (h : GrammarView). AreFacts h facts) is are

-- the grammar with holes is that of the host's grammar
pub holes_are : (r : ResolvedParts) (g holes : GrammarView) → HasGrammar r g → IfSome r.grammar (λ h. holes ≡ with_holes_of h r.extensible)
    → holes ≡ with_holes_of g r.extensible
holes_are r g holes has made = subst (λ o. IfSome o (λ h. holes ≡ with_holes_of h r.extensible)) has.grammar made

-- preferences are between terminals
pub edges_below : (r : ResolvedParts) → All (IsNamedPreference r) r.preferences
    → All (IsEdgeBelow (length r.terminals)) (preference_pairs r)
edges_below r named = all_from_places (IsEdgeBelow (length r.terminals)) (preference_pairs r) (λ i edge at. place i edge at)
  where
    below : (p : Preference) → IsNamedPreference r p → IsEdgeBelow (length r.terminals) (p.first, p.second)
    below p is = (
      slice_get_within r.terminals p.first is.first.terminal is.first.is,
      slice_get_within r.terminals p.second is.second.terminal is.second.is,
    )

    pair : Preference → ℕ × ℕ
    pair p = (p.first, p.second)

    found : (i : ℕ) (edge : ℕ × ℕ) (o : Option Preference) → slice_get r.preferences i ≡ o → option_map pair o ≡ Some edge
        → IsEdgeBelow (length r.terminals) edge
    found i edge None is at = cc
    found i edge (Some p) is at =
        subst (IsEdgeBelow (length r.terminals)) (same_Some (pair p) edge at)
        (below p (all_at (IsNamedPreference r) r.preferences i p named is))

    place : (i : ℕ) (edge : ℕ × ℕ) → slice_get (preference_pairs r) i ≡ Some edge → IsEdgeBelow (length r.terminals) edge
    place i edge at = found i edge (slice_get r.preferences i) refl (sym (slice_get-map pair r.preferences i) ∙ at)

-- what is scanned of a resolved specification fits its grammar with holes
pub lexicon_fits : (r : ResolvedParts) (g : GrammarView) (first : Option ℕ) → HasGrammar r g
    → FitsGrammar (with_holes_of g r.extensible).terminals (lexicon_in r g first)
lexicon_fits r g first has = record {
  scanned = omega arith;
  expressions = subst (λ (n : ℕ). g.terminals ≤ n) (sym patterns) of.terminals_len;
  layout = length-map r.terminals (is_layout_of (everywhere first)) ∙ sym patterns;
  own_layout = length-map r.terminals (is_layout_of (own first)) ∙ sym patterns;
}
  where
    patterns : length (map (λ (t : Terminal). t.pattern) r.terminals) ≡ length r.terminals
    patterns = length-map r.terminals (λ (t : Terminal). t.pattern)

    of : IsGrammarOf r g
    of = subst (λ o. IfSome o (IsGrammarOf r)) has.grammar has.resolved.numbered.grammar
