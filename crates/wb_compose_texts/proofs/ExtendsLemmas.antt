-- What is composed of a host and extensions extends what is composed of the host and none.
use Rattle.std.proofs.Common.{◌≡◌, ◌∙◌, [], ℕ, Bool, List, map, refl, sym, subst}
use Rattle.std.proofs.lemmas.List.Elements.{All-nil}
use Rattle.std.proofs.lemmas.Simd.{map-map}
use Rattle.wb_base.specs.Different.{Differ}
use Rattle.wb_operations.specs.Operations.{OperationSignature}
use Rattle.wb_scan_theory.specs.Languages.{LanguageView}
use Rattle.wb_syntax_resolved.specs.declared.attribution.AttributionParts.{AttributionParts}
use Rattle.wb_syntax_resolved.specs.declared.resolved.ResolvedParts.{ResolvedParts}
use Rattle.wb_compose.specs.AttributeNumbers.{NumberMap}
use Rattle.wb_compose.specs.Languages.{IsUnitedLanguage}
use Rattle.wb_compose.specs.Lexicons.{lexicon_of}
use Rattle.wb_compose.specs.Kept.{AreCertifiedBoth, ExtensionView}
use Rattle.wb_compose.specs.Hosts.{CertifiedView}
use Rattle.wb_compose.specs.Composed.{IsComposed}
use Rattle.wb_compose.specs.Joined.{Extended}
use Rattle.wb_compose.specs.United.{IsOfUnion}
use Rattle.wb_compose.specs.Written.{name_in, written_in}
use Rattle.wb_compose_texts.specs.Roots.{attributes_in}
use Rattle.wb_compose_texts.specs.Unions.{Union, all_resolved}
use Rattle.wb_compose_texts.proofs.ComposedLemmas.{union_is}
use Rattle.wb_compose_texts.proofs.OneUnion.{one_attribution, one_extended, one_grammar}
use Rattle.wb_reading.specs.Extends.{Extends}
use Rattle.wb_reading.specs.MarkingTerminals.{AreMarking}
use Rattle.wb_compose_texts.specs.Composed.{AreComposed}
use Rattle.wb_compose_texts.specs.UnionMarkers.{AreUnionMarkers}
use Rattle.wb_compose_texts.proofs.MarkingLemmas.{are_marking}
use Rattle.wb_compose_texts.proofs.UnionLemmas.{numbers, union_extends}

module _ (host : ResolvedParts) (operations : List OperationSignature) (extensions : List ResolvedParts) where
  -- the union of the same host and no extensions
  abbrev pub alone_with : Union host operations extensions → Union host operations []
  alone_with all = record {
    grammar = all.grammar;
    extended = [];
    extensions_are = refl;
    certified = record {
      host_resolved = all.certified.host_resolved;
      host_start = all.certified.host_start;
      host_certified = all.certified.host_certified;
      each = All-nil (λ (e : Extended). AreCertifiedBoth host e.resolved all.grammar e.grammar operations);
    };
  }

  -- a language of one union is one of every other
  pub language_in : (u v : Union host operations extensions) (l : LanguageView) →
      IsUnitedLanguage v.grammar host.extensible (lexicon_of host v.grammar) (written_in v.grammar v.extended) l →
      IsUnitedLanguage u.grammar host.extensible (lexicon_of host u.grammar) (written_in u.grammar u.extended) l
  language_in u v l is =
      subst (λ g. IsUnitedLanguage g host.extensible (lexicon_of host g) (written_in g u.extended) l)
      (sym (one_grammar host operations extensions u v))
      (subst (λ xs. IsUnitedLanguage v.grammar host.extensible (lexicon_of host v.grammar) (written_in v.grammar xs) l)
      (sym (one_extended host operations extensions u v)) is)

  -- attributes of a union are those of every one
  abbrev union_of : (a : AttributionParts) → IsOfUnion host operations extensions a → Union host operations extensions
  union_of a is = record {
    grammar = is.grammar;
    extended = is.extended;
    extensions_are = is.extensions_are;
    certified = is.certified;
  }

  pub attributes_are : (u : Union host operations extensions) (a : AttributionParts) → IsOfUnion host operations extensions a →
      a ≡ attributes_in host operations extensions u
  attributes_are u a is = is.are ∙ one_attribution host operations extensions (union_of a is) u

module _ (host : CertifiedView) (extensions : List ExtensionView) where
  -- the names of extensions that differ
  pub names_in : Differ (map (λ (e : ExtensionView). name_in e.resolved) extensions) → Differ (map name_in (all_resolved extensions))
  names_in differ = subst Differ (sym (map-map name_in (λ (e : ExtensionView). e.resolved) extensions)) differ

  pub markers_marking : (u : LanguageView) (withdrawn : List ℕ) (c : IsComposed host extensions u withdrawn) (markers : List Bool) →
      AreUnionMarkers host.resolved (all_resolved extensions) markers →
      AreMarking c.grammar host.resolved.extensible (lexicon_of host.resolved c.grammar) (written_in c.grammar c.extended) markers
  markers_marking u withdrawn c markers are =
      are_marking host.resolved c.grammar host.operations c.certified.host_start c.extended c.certified.each markers
      (subst (λ z. AreUnionMarkers host.resolved z markers) (sym (union_is host extensions u withdrawn c).extensions_are) are)

  pub composed_extends : (h u : LanguageView) (s a : AttributionParts) (markers : List Bool) → AreComposed host extensions h u s a markers →
      (t : NumberMap) × Extends h u s a t markers
  composed_extends h u s a markers c =
      let all = union_is host extensions u c.withdrawn c.together in
      let none = alone_with host.resolved host.operations (all_resolved extensions) all in
      let differ = names_in c.names in
      let of_host = language_in host.resolved host.operations [] none (union_is host [] h c.withdrawn_alone c.alone) h c.alone.language in
      let whole = union_extends host.resolved host.operations (all_resolved extensions) differ all h u of_host c.together.language markers
      c.markers_are in
      let first = attributes_are host.resolved host.operations [] none s c.attributes_alone in
      let second = attributes_are host.resolved host.operations (all_resolved extensions) all a c.attributes in (
        numbers host.resolved host.operations (all_resolved extensions) differ all,
        subst (λ z. Extends h u z a (numbers host.resolved host.operations (all_resolved extensions) differ all) markers) (sym first)
            (subst (λ z. Extends h u (attributes_in host.resolved host.operations [] none) z
            (numbers host.resolved host.operations (all_resolved extensions) differ all) markers) (sym second) whole),
      )
