use Rattle.std.proofs.Common.{◌<◌, List, All, length, ap, sym, subst, ◌∙◌}
use Rattle.std.proofs.lemmas.Result.{on_ok_weaker}
use Rattle.wb_syntax_resolved.specs.declared.attributes.Attribute.{Attribute}
use Rattle.wb_syntax_resolved.specs.declared.attributes.Occurrence.{Occurrence}
use Rattle.wb_syntax_resolved.specs.declared.attribution.AttributionParts.{AttributionParts}
use Rattle.wb_syntax_resolved.specs.declared.terminal.Preference.{Preference}
use Rattle.wb_names_rows.specs.Base.{IsAttributeNow, IsOccurrenceNow, IsPreferenceNow, PreferenceIsWithin}
use Rattle.wb_names_rows.specs.Moves.{KindIsWithin}
use Rattle.wb_names_rows.specs.Plains.{AddsEach}
use Rattle.wb_names.proofs.RestLemmas.{attributes_within, occurrences_within, preferences_within}
use Rattle.wb_names.proofs.rest.add_base.Goals as goal

pub add_attributes-requires : goal.add_attributes-requires
add_attributes-requires c =
    subst (All (λ (a : Attribute). KindIsWithin c.args.moves.now a.kind))
    (sym (c.as_slice.ensures ∙ ap (λ (z : AttributionParts). z.attributes) c.parts-parts.ensures.parts))
    (attributes_within c.args.base.now c.args.moves.now c.requires.base c.requires.tables)

pub add_occurrences-requires : goal.add_occurrences-requires
add_occurrences-requires c =
    subst (All (λ (o : Occurrence). o.nonterminal < length c.args.moves.now.nonterminals.items))
    (sym (c.as_slice-2.ensures ∙ ap (λ (z : AttributionParts). z.occurrences) c.parts-parts.ensures.parts))
    (occurrences_within c.args.base.now c.args.moves.now c.requires.base c.requires.tables)

pub add_preferences-requires : goal.add_preferences-requires
add_preferences-requires c =
    subst (All (PreferenceIsWithin c.args.moves.now)) (sym c.as_slice-3.ensures)
    (preferences_within c.args.base.now c.args.moves.now c.requires.base c.requires.tables)

pub returns : goal.returns
returns c =
    let m = c.args.moves.now in
    let old = c.args.made.now in
    on_ok_weaker c.add_preferences.result
    (λ added. record {
      attributes = subst (λ (z : List Attribute). AddsEach (IsAttributeNow m) z old.attributes.items c.add_attributes.new.made.items)
          (c.as_slice.ensures ∙ ap (λ (z : AttributionParts). z.attributes) c.parts-parts.ensures.parts) c.in_ok-add_attributes.ensures;
      occurrences = subst (λ (z : List Occurrence). AddsEach (IsOccurrenceNow m) z old.occurrences.items c.add_occurrences.new.made.items)
          (c.as_slice-2.ensures ∙ ap (λ (z : AttributionParts). z.occurrences) c.parts-parts.ensures.parts) c.in_ok-add_occurrences.ensures;
      preferences = subst (λ (z : List Preference). AddsEach (IsPreferenceNow m) z old.preferences.items c.add_preferences.new.made.items)
          c.as_slice-3.ensures added;
    })
    c.add_preferences.ensures
