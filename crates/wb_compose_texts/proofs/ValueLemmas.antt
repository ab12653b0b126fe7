-- An attribute of the host has at the root of a text without markers what it has by the host alone.
use Rattle.std.proofs.Common.{◌≡◌, ◌∙◌, [], ℕ, Bool, List, map, refl, sym, subst}
use Rattle.wb_base.specs.Different.{Differ}
use Rattle.wb_eval_theory.specs.Answers.{HasAnswer}
use Rattle.wb_eval_theory.specs.Instances.{root, synthesized_at}
use Rattle.wb_eval_theory.specs.Needed.{NeedsMoreThan}
use Rattle.wb_eval_theory.specs.Walks.{Outcome}
use Rattle.wb_operations.specs.Operations.{Operations}
use Rattle.wb_scan_theory.specs.Languages.{LanguageView}
use Rattle.wb_syntax_resolved.specs.Attribution.{IsAttribution}
use Rattle.wb_syntax_resolved.specs.declared.attribution.AttributionParts.{AttributionParts}
use Rattle.wb_syntax_resolved.specs.declared.resolved.ResolvedParts.{ResolvedParts}
use Rattle.wb_terms.specs.Printed.{printed_value}
use Rattle.wb_values.specs.Tree.{Tree, Value}
use Rattle.wb_compose.specs.AttributeNumbers.{NumberMap}
use Rattle.wb_compose.specs.Written.{name_in}
use Rattle.wb_eval_root.specs.Values.{ComesTo, HasPrintedValue, IsTreeValue}
use Rattle.wb_eval_root.specs.declared.value.TreeValue.{TreeValue}
use Rattle.wb_eval_root.specs.declared.value.TreeValue.TheVariants as v
use Rattle.wb_compose_texts.specs.Roots.{attributes_in}
use Rattle.wb_compose_texts.specs.Unions.{IsLanguageOf, Union}
use Rattle.wb_compose_texts.specs.Values.{HasRootValue, IsTextValue, IsValueIn}
use Rattle.wb_compose_texts.specs.declared.value.TextValue.{TextValue}
use Rattle.wb_compose_texts.specs.declared.value.TextValue.TheVariants as answer
use Rattle.wb_compose_texts.proofs.OneUnion.{one_attribution}
use Rattle.wb_reading.specs.Attributes.{HasSameAttributes}
use Rattle.wb_reading.specs.Attributions.{ExtendsAttribution}
use Rattle.wb_reading.specs.Markers.{IsPlain}
use Rattle.wb_reading.proofs.PrintedLemmas.{value_alike}
use Rattle.wb_reading.proofs.ReadingLemmas.{same_attributes}
use Rattle.wb_compose_texts.specs.HostReadings.{HasHostReading}
use Rattle.wb_compose_texts.specs.UnionMarkers.{AreUnionMarkers, union_markers}
use Rattle.wb_compose_texts.proofs.PlainLemmas.{both_extend, reads, stop_there}
use Rattle.wb_compose_texts.proofs.AskedLemmas.{root_in}
use Rattle.wb_compose_texts.proofs.ExtendsLemmas.{alone_with}
use Rattle.wb_compose_texts.proofs.UnionLemmas.{are_attribution, host_attribution, numbers}

module _ {s a : AttributionParts} {t : NumberMap} (is : IsAttribution s) (ok : IsAttribution a) (extends : ExtendsAttribution s a t)
    (alone : s.extensions ≡ []) where
  module _ (operations : Operations) (top : Tree) (same : HasSameAttributes s a t operations top) (y steps : ℕ) where
    -- no more instances are needed by the other than there are steps
    within_there : ¬ NeedsMoreThan s operations top (synthesized_at root y) steps →
        ¬ NeedsMoreThan a operations top (synthesized_at root (t.attribute y)) steps
    within_there within needed = within ((same.needs y steps).1 needed)

    -- the value that the other has is printed so
    printed_as : {given : Value} (printed : List ℕ) →
        HasAnswer a operations top (synthesized_at root (t.attribute y)) (Outcome.value given) →
        ¬ NeedsMoreThan a operations top (synthesized_at root (t.attribute y)) steps → printed ≡ printed_value a.signatures given →
        HasPrintedValue a operations top (t.attribute y) steps printed
    printed_as {given} printed has within is = record { given = given; comes = record { has = has; within = within }; is = is }

    printed_there : (printed : List ℕ) → HasPrintedValue s operations top y steps printed →
        HasPrintedValue a operations top (t.attribute y) steps printed
    printed_there printed has = printed_as printed ((same.answers y (Outcome.value has.given)).0 has.comes.has)
        (within_there has.comes.within) (has.is ∙ sym (value_alike is ok extends alone has.given))

    -- and what comes of it
    pub value_there : (value : TreeValue) → IsTreeValue s operations top y steps value →
        IsTreeValue a operations top (t.attribute y) steps value
    value_there (v.Value printed) has = (printed_there printed has.0, has.1)
    value_there v.TooLong has = record { printed = has.printed; has = printed_there has.printed has.has; long = has.long }
    value_there (v.Fault operation code) has =
        let comes : ComesTo a operations top (t.attribute y) steps (Outcome.fault has.number code) = record {
          has = (same.answers y (Outcome.fault has.number code)).0 has.comes.has;
          within = within_there has.comes.within;
        } in record { number = has.number; comes = comes; is = has.is }
    value_there v.MoreSteps needed = (same.needs y steps).0 needed

module _ (host : ResolvedParts) (operations : Operations) (extensions : List ResolvedParts) (differ : Differ (map name_in extensions))
    (none : Union host operations.signatures []) (all : Union host operations.signatures extensions) (l u : LanguageView)
    (l_is : IsLanguageOf host operations.signatures [] none l) (u_is : IsLanguageOf host operations.signatures extensions all u)
    (markers : List Bool) (are : AreUnionMarkers host extensions markers) (text : List ℕ) (plain : IsPlain u markers text)
    (name : List ℕ) (steps : ℕ) where
  root_there : (value : TreeValue) → HasRootValue host operations [] text name steps none l value →
      HasRootValue host operations extensions text name steps all u value
  root_there value has =
      let whole = both_extend host operations.signatures extensions differ none all l u l_is u_is markers are text plain in
      let read = reads host operations.signatures extensions differ none all l u l_is u_is markers are text plain in
      let own = alone_with host operations.signatures extensions all in
      let t = numbers host operations.signatures extensions differ all in
      let is = host_attribution host operations.signatures extensions differ all in
      let ok = are_attribution host operations.signatures extensions differ all in
      let here : IsTreeValue (attributes_in host operations.signatures [] own) operations has.top has.attribute steps value =
      subst (λ (b : AttributionParts). IsTreeValue b operations has.top has.attribute steps value)
      (one_attribution host operations.signatures [] none own) has.is in
      let same = same_attributes l u (attributes_in host operations.signatures [] own)
      (attributes_in host operations.signatures extensions all)
      t markers is ok whole has.root has.parses.is_tree has.top has.shows operations in
      record {
        root = has.root;
        parses = (read.trees has.root).0 has.parses;
        top = has.top;
        shows = has.shows;
        attribute = t.attribute has.attribute;
        asked = root_in host operations.signatures extensions differ all none name has.attribute has.asked;
        is = value_there is ok whole.attributes refl operations has.top same has.attribute steps value here;
      }

  value_in : (value : TextValue) → IsValueIn host operations [] text name steps none l value →
      IsValueIn host operations extensions text name steps all u value
  value_in (answer.Tree value) has = root_there value has
  value_in (answer.Stopped place shown) has =
      stop_there host operations.signatures extensions differ none all l u l_is u_is markers are text plain place shown has

pub text_value_there : (host : ResolvedParts) (operations : Operations) (extensions : List ResolvedParts) →
    Differ (map name_in extensions) →
    (text : List ℕ) → HasHostReading host operations.signatures extensions text → (name : List ℕ) (steps : ℕ) (value : TextValue) →
    IsTextValue host operations [] text name steps value → IsTextValue host operations extensions text name steps value
text_value_there host operations extensions differ text reading name steps value here = record {
  whole = reading.whole;
  language = reading.language;
  is_language = reading.is_language;
  is = value_in host operations extensions differ here.whole reading.whole here.language reading.language here.is_language
      reading.is_language (union_markers host extensions) (λ t. (λ has. has, λ has. has)) text reading.plain name steps value here.is;
}
