-- An attribute of the host has by the host alone what it has at the root of a text without markers.
use Rattle.std.proofs.Common.{◌≡◌, ◌∙◌, [], ℕ, Bool, List, map, ap, refl, sym, subst}
use Rattle.wb_base.specs.Different.{Differ}
use Rattle.wb_eval_theory.specs.Answers.{HasAnswer}
use Rattle.wb_eval_theory.specs.Instances.{root, synthesized_at}
use Rattle.wb_eval_theory.specs.Needed.{NeedsMoreThan}
use Rattle.wb_eval_theory.specs.Walks.{Outcome, fault, value}
use Rattle.wb_operations.specs.Operations.{Operations}
use Rattle.wb_scan_theory.specs.Languages.{LanguageView}
use Rattle.wb_syntax_resolved.specs.Attribution.{IsAttribution}
use Rattle.wb_syntax_resolved.specs.declared.attribution.AttributionParts.{AttributionParts}
use Rattle.wb_syntax_resolved.specs.declared.resolved.ResolvedParts.{ResolvedParts}
use Rattle.wb_terms.specs.Printed.{printed_value}
use Rattle.wb_values.specs.Tree.{Tree, Value}
use Rattle.wb_compose.specs.AttributeNumbers.{NumberMap}
use Rattle.wb_reading.specs.OrderedValues.{renamed_outcome, renamed_value}
use Rattle.wb_compose.specs.Written.{name_in}
use Rattle.wb_eval_root.specs.Values.{HasPrintedValue, IsTreeValue}
use Rattle.wb_eval_root.specs.declared.value.TreeValue.{TreeValue}
use Rattle.wb_eval_root.specs.declared.value.TreeValue.TheVariants as v
use Rattle.wb_compose_texts.specs.HostReadings.{HasHostReading, HasLanguage}
use Rattle.wb_compose_texts.specs.Roots.{attributes_in}
use Rattle.wb_compose_texts.specs.SameRoots.{IsHostAttribute}
use Rattle.wb_compose_texts.specs.UnionMarkers.{AreUnionMarkers, union_markers}
use Rattle.wb_compose_texts.specs.Unions.{IsLanguageOf, Union}
use Rattle.wb_compose_texts.specs.Values.{HasRootValue, IsTextValue, IsValueIn}
use Rattle.wb_compose_texts.specs.declared.value.TextValue.{TextValue}
use Rattle.wb_compose_texts.specs.declared.value.TextValue.TheVariants as answer
use Rattle.wb_compose_texts.proofs.AskedLemmas.{root_back}
use Rattle.wb_compose_texts.proofs.ExtendsLemmas.{alone_with}
use Rattle.wb_compose_texts.proofs.OneUnion.{one_attribution}
use Rattle.wb_compose_texts.proofs.PlainLemmas.{both_extend, plain_in, reads, stop_back}
use Rattle.wb_compose_texts.proofs.UnionLemmas.{are_attribution, host_attribution, numbers}
use Rattle.wb_reading.specs.Attributes.{HasSameAttributes}
use Rattle.wb_reading.specs.Attributions.{ExtendsAttribution}
use Rattle.wb_reading.specs.Markers.{IsPlain}
use Rattle.wb_reading.proofs.PrintedLemmas.{value_alike}
use Rattle.wb_reading.proofs.ReadingLemmas.{same_attributes}

-- what is a value in new numbers was one
value_before : (t : NumberMap) (given : Value) (o : Outcome) → value given ≡ renamed_outcome t o →
    (x : Value) × (o ≡ value x) × (given ≡ renamed_value t x)
value_before t given (value x) same = let whole : value given ≡ value (renamed_value t x) = same in (x, refl, cc)
value_before t given (fault operation code) same = let whole : value given ≡ fault operation code = same in absurd (cc)

-- and a fault was the same fault
fault_before : (t : NumberMap) (operation code : ℕ) (o : Outcome) → fault operation code ≡ renamed_outcome t o → o ≡ fault operation code
fault_before t operation code (value x) same = let whole : fault operation code ≡ value (renamed_value t x) = same in absurd (cc)
fault_before t operation code (fault also this) same = sym same

module _ {s a : AttributionParts} {t : NumberMap} (is : IsAttribution s) (ok : IsAttribution a) (extends : ExtendsAttribution s a t)
    (alone : s.extensions ≡ []) (operations : Operations) (top : Tree) (same : HasSameAttributes s a t operations top) (y steps : ℕ) where
  -- no more instances are needed by the host than there are steps
  within_back : ¬ NeedsMoreThan a operations top (synthesized_at root (t.attribute y)) steps →
      ¬ NeedsMoreThan s operations top (synthesized_at root y) steps
  within_back within needed = within ((same.needs y steps).0 needed)

  printed_back : (printed : List ℕ) → HasPrintedValue a operations top (t.attribute y) steps printed →
      HasPrintedValue s operations top y steps printed
  printed_back printed has =
      let (o, o_is, here) = same.no_others y (value has.given) has.comes.has in
      let (x, x_is, given_is) = value_before t has.given o o_is in
      record {
        given = x;
        comes = record {
          has = subst (HasAnswer s operations top (synthesized_at root y)) x_is here;
          within = within_back has.comes.within;
        };
        is = has.is ∙ (ap (printed_value a.signatures) given_is ∙ value_alike is ok extends alone x);
      }

  -- and what comes of it
  pub value_back : (x : TreeValue) → IsTreeValue a operations top (t.attribute y) steps x → IsTreeValue s operations top y steps x
  value_back (v.Value printed) has = (printed_back printed has.0, has.1)
  value_back v.TooLong has = record { printed = has.printed; has = printed_back has.printed has.has; long = has.long }
  value_back (v.Fault operation code) has =
      let (o, o_is, here) = same.no_others y (fault has.number code) has.comes.has in
      record {
        number = has.number;
        comes = record {
          has = subst (HasAnswer s operations top (synthesized_at root y)) (fault_before t has.number code o o_is) here;
          within = within_back has.comes.within;
        };
        is = has.is;
      }
  value_back v.MoreSteps needed = (same.needs y steps).1 needed

module _ (host : ResolvedParts) (operations : Operations) (extensions : List ResolvedParts) (differ : Differ (map name_in extensions))
    (none : Union host operations.signatures []) (all : Union host operations.signatures extensions) (l u : LanguageView)
    (l_is : IsLanguageOf host operations.signatures [] none l) (u_is : IsLanguageOf host operations.signatures extensions all u)
    (markers : List Bool) (are : AreUnionMarkers host extensions markers) (text : List ℕ) (plain : IsPlain u markers text)
    (name : List ℕ) (steps : ℕ) where
  root_value_back : IsHostAttribute host name → (x : TreeValue) → HasRootValue host operations extensions text name steps all u x →
      HasRootValue host operations [] text name steps none l x
  root_value_back (y, named) x has =
      let whole = both_extend host operations.signatures extensions differ none all l u l_is u_is markers are text plain in
      let read = reads host operations.signatures extensions differ none all l u l_is u_is markers are text plain in
      let own = alone_with host operations.signatures extensions all in
      let t = numbers host operations.signatures extensions differ all in
      let a = attributes_in host operations.signatures extensions all in
      let is = host_attribution host operations.signatures extensions differ all in
      let ok = are_attribution host operations.signatures extensions differ all in
      let parses = (read.trees has.root).1 has.parses in
      let (attribute_is, asked) = root_back host operations.signatures extensions differ all none name y named has.attribute has.asked in
      let same = same_attributes l u (attributes_in host operations.signatures [] own) a t markers is ok whole has.root parses.is_tree
      has.top has.shows operations in
      let there : IsTreeValue a operations has.top (t.attribute y) steps x =
      subst (λ k. IsTreeValue a operations has.top k steps x) attribute_is has.is in
      record {
        root = has.root;
        parses = parses;
        top = has.top;
        shows = has.shows;
        attribute = y;
        asked = asked;
        is = subst (λ (b : AttributionParts). IsTreeValue b operations has.top y steps x)
            (one_attribution host operations.signatures [] own none)
            (value_back is ok whole.attributes refl operations has.top same y steps x there);
      }

  value_out : IsHostAttribute host name → (x : TextValue) → IsValueIn host operations extensions text name steps all u x →
      IsValueIn host operations [] text name steps none l x
  value_out hosts (answer.Tree x) has = root_value_back hosts x has
  value_out hosts (answer.Stopped place shown) has =
      stop_back host operations.signatures extensions differ none all l u l_is u_is markers are text plain place shown has

pub text_value_back : (host : ResolvedParts) (operations : Operations) (extensions : List ResolvedParts) → Differ (map name_in extensions) →
    (text : List ℕ) → HasHostReading host operations.signatures extensions text → HasLanguage host operations.signatures [] →
    (name : List ℕ) → IsHostAttribute host name → (steps : ℕ) (x : TextValue) → IsTextValue host operations extensions text name steps x →
    IsTextValue host operations [] text name steps x
text_value_back host operations extensions differ text reading alone name hosts steps x there = record {
  whole = alone.whole;
  language = alone.language;
  is_language = alone.is_language;
  is = value_out host operations extensions differ alone.whole there.whole alone.language there.language alone.is_language
      there.is_language (union_markers host extensions) (λ t. (λ has. has, λ has. has)) text
      (plain_in host operations.signatures extensions text reading there.whole there.language there.is_language) name steps hosts x there.is;
}
