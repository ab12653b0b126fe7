-- What is made of what is lent are the attributes of a union.
use Rattle.std.proofs.Common.{◌≡◌, ◌∙◌, ◌∷◌, [], List, Some, All, map, refl, sym, ap, subst}
use Rattle.std.specs.List.{AllZip}
use Rattle.std.proofs.lemmas.List.Elements.{All-cons, All-head, All-nil, All-tail}
use Rattle.wb_base.specs.Different.{Differ}
use Rattle.wb_base.specs.Grammar.{GrammarView}
use Rattle.wb_certify.specs.Kept.{AreCertifiedBoth, ExtensionView}
use Rattle.wb_compose.proofs.AgreementLemmas.{agrees}
use Rattle.wb_compose.proofs.LawLemmas.{are_united}
use Rattle.wb_compose.specs.Agreement.{united_grammar}
use Rattle.wb_compose.specs.Attributes.{addition_of, attributes_of}
use Rattle.wb_compose.specs.AttributeLaws.{AreUnitedAttributes}
use Rattle.wb_compose.specs.United.{IsOfUnion}
use Rattle.wb_certify.specs.Hosts.{CertifiedView, IsCertifiedValue}
use Rattle.wb_compose.specs.Composed.{IsWith, name_of}
use Rattle.wb_compose.specs.Joined.{AreCertifiedApart, Extended}
use Rattle.wb_compose.specs.Written.{name_in}
use Rattle.wb_scan_theory.specs.Shown.{AgreesWith}
use Rattle.wb_compose_theory_lists.specs.United.{united_attribution}
use Rattle.wb_operations.specs.Operations.{IsPlainSignature}
use Rattle.wb_syntax_resolved.specs.Attribution.{IsAttribution}
use Rattle.wb_syntax_resolved.specs.declared.attribution.AttributionParts.{AttributionParts}
use Rattle.wb_syntax_resolved.specs.declared.resolved.ResolvedParts.{ResolvedParts}
use Rattle.wb_syntax_resolved.specs.Resolved.{IsResolved}
use Rattle.wb_compose_attributes.specs.declared.addition.Addition.{Addition}
use Rattle.wb_compose_attributes.specs.declared.addition.Rows.{Rows}
use Rattle.wb_compose_attributes.specs.Lent.{all_in, rows_in}
use Rattle.wb_compose.specs.Inner.Cuts.{IsCut, rows_by}
use Rattle.wb_compose.proofs.CutRows.{addition_is, extended_by}

-- each extension with its grammar
module _ (host : CertifiedView) (h : GrammarView) where
  abbrev IsCutOf : ExtensionView → Addition → Type 0
  IsCutOf = IsCut host.resolved.attributes h

  abbrev pub all_extended : (es : List ExtensionView) (xs : List Addition) → AllZip IsCutOf es xs → List Extended
  all_extended [] [] all = []
  all_extended [] (x ∷ xs) all = absurd all
  all_extended (e ∷ es) [] all = absurd all
  all_extended (e ∷ es) (x ∷ xs) all = extended_by e all.0.grammar ∷ all_extended es xs all.1

  all_resolved : (es : List ExtensionView) (xs : List Addition) (all : AllZip IsCutOf es xs) →
      map (λ (e : Extended). e.resolved) (all_extended es xs all) ≡ map (λ (e : ExtensionView). e.resolved) es
  all_resolved [] [] all = refl
  all_resolved [] (x ∷ xs) all = absurd all
  all_resolved (e ∷ es) [] all = absurd all
  all_resolved (e ∷ es) (x ∷ xs) all = ap (λ z. e.resolved ∷ z) (all_resolved es xs all.1)

  all_named : (es : List ExtensionView) (xs : List Addition) (all : AllZip IsCutOf es xs) →
      map name_of es ≡ map (λ (e : Extended). name_in e.resolved) (all_extended es xs all)
  all_named [] [] all = refl
  all_named [] (x ∷ xs) all = absurd all
  all_named (e ∷ es) [] all = absurd all
  all_named (e ∷ es) (x ∷ xs) all = ap (λ z. name_of e ∷ z) (all_named es xs all.1)

  module _ (start : host.resolved.grammar ≡ Some h) (whole : IsResolved host.resolved)
      (certified : IsCertifiedValue host.resolved host.operations) where
    abbrev Both : Extended → Type 0
    Both e = AreCertifiedBoth host.resolved e.resolved h e.grammar host.operations

    both_at : (e : ExtensionView) (x : Addition) → IsWith host e → (cut : IsCutOf e x) → Both (extended_by e cut.grammar)
    both_at e x with_host cut =
        let e_start = ap (λ (r : ResolvedParts). r.grammar) with_host.host_is ∙ start in
        subst (λ r. AreCertifiedBoth r e.resolved h cut.grammar host.operations) with_host.host_is
        (subst (λ os. AreCertifiedBoth e.host e.resolved h cut.grammar os) with_host.operations_are (cut.both h e_start))

    all_both : (es : List ExtensionView) (xs : List Addition) (all : AllZip IsCutOf es xs) → All (IsWith host) es →
        All Both (all_extended es xs all)
    all_both [] [] all each = All-nil Both
    all_both [] (x ∷ xs) all each = absurd all
    all_both (e ∷ es) [] all each = absurd all
    all_both (e ∷ es) (x ∷ xs) all each = All-cons Both (extended_by e all.0.grammar) (all_extended es xs all.1)
        (both_at e x (All-head (IsWith host) e es each) all.0) (all_both es xs all.1 (All-tail (IsWith host) e es each))

    apart : (es : List ExtensionView) (xs : List Addition) (all : AllZip IsCutOf es xs) → All (IsWith host) es →
        AreCertifiedApart host.resolved h host.operations (all_extended es xs all)
    apart es xs all each = record {
      host_resolved = whole;
      host_start = start;
      host_certified = certified;
      each = all_both es xs all each;
    }

    -- what is lent of all is what all add
    all_added : (lent : Rows) → rows_in lent ≡ rows_by host.resolved.attributes h → (es : List ExtensionView) (xs : List Addition) →
        (all : AllZip IsCutOf es xs) → All (IsWith host) es →
        all_in lent xs ≡ map (addition_of host.resolved h) (all_extended es xs all)
    all_added lent rows_are [] [] all each = refl
    all_added lent rows_are [] (x ∷ xs) all each = absurd all
    all_added lent rows_are (e ∷ es) [] all each = absurd all
    all_added lent rows_are (e ∷ es) (x ∷ xs) all each =
        let both = both_at e x (All-head (IsWith host) e es each) all.0 in
        λ j. addition_is host.resolved h lent whole start rows_are e x all.0 both.resolved j
        ∷ all_added lent rows_are es xs all.1 (All-tail (IsWith host) e es each) j

    pub attributes_are : (lent : Rows) → rows_in lent ≡ rows_by host.resolved.attributes h → (es : List ExtensionView) →
        (xs : List Addition) (all : AllZip IsCutOf es xs) → All (IsWith host) es →
        united_attribution (rows_in lent) (all_in lent xs) ≡ attributes_of host.resolved h (all_extended es xs all)
    attributes_are lent rows_are es xs all each = λ j. united_attribution (rows_are j) (all_added lent rows_are es xs all each j)

    -- they are those of a union
    module _ (lent : Rows) (rows_are : rows_in lent ≡ rows_by host.resolved.attributes h) (es : List ExtensionView) (xs : List Addition)
        (all : AllZip IsCutOf es xs) (each : All (IsWith host) es) (names : Differ (map name_of es))
        (plain : All IsPlainSignature host.operations) where
      abbrev extended : List Extended
      extended = all_extended es xs all

      united : AreUnitedAttributes host.resolved h host.operations extended
      united = are_united host.resolved h host.operations extended (record {
        certified = apart es xs all each;
        names = subst Differ (all_named es xs all) names;
        plain = plain;
      })

      pub attribution : IsAttribution (united_attribution (rows_in lent) (all_in lent xs))
      attribution = subst IsAttribution (sym (attributes_are lent rows_are es xs all each)) united.attribution

      pub of_union : (made : AttributionParts) → made ≡ united_attribution (rows_in lent) (all_in lent xs) →
          IsOfUnion host.resolved host.operations (map (λ (e : ExtensionView). e.resolved) es) made
      of_union made is =
          let are = is ∙ attributes_are lent rows_are es xs all each in
          record {
            grammar = h;
            extended = extended;
            extensions_are = all_resolved es xs all;
            certified = apart es xs all each;
            are = are;
            of_union = united;
            agrees = subst (λ (a : AttributionParts). AgreesWith a.signatures (united_grammar host.resolved h extended)) (sym are)
                (agrees host.resolved h host.operations extended (apart es xs all each));
          }

-- the same of what was cut out of equal attributes
module _ (host : CertifiedView) (h : GrammarView) (start : host.resolved.grammar ≡ Some h) (whole : IsResolved host.resolved)
    (certified : IsCertifiedValue host.resolved host.operations) (plain : All IsPlainSignature host.operations)
    (a : AttributionParts) (attributes : a ≡ host.resolved.attributes) (lent : Rows) (rows_are : rows_in lent ≡ rows_by a h)
    (es : List ExtensionView) (items xs : List Addition) (all : AllZip (IsCut a h) es items) (same : xs ≡ items)
    (each : All (IsWith host) es) (names : Differ (map name_of es)) where
  rows : rows_in lent ≡ rows_by host.resolved.attributes h
  rows = rows_are ∙ ap (λ z. rows_by z h) attributes

  cuts : AllZip (IsCut host.resolved.attributes h) es xs
  cuts = subst (AllZip (IsCut host.resolved.attributes h) es) (sym same) (subst (λ z. AllZip (IsCut z h) es items) attributes all)

  pub lent_attribution : IsAttribution (united_attribution (rows_in lent) (all_in lent xs))
  lent_attribution = attribution host h start whole certified lent rows es xs cuts each names plain

  pub lent_union : (made : AttributionParts) → made ≡ united_attribution (rows_in lent) (all_in lent xs) →
      IsOfUnion host.resolved host.operations (map (λ (e : ExtensionView). e.resolved) es) made
  lent_union = of_union host h start whole certified lent rows es xs cuts each names plain
