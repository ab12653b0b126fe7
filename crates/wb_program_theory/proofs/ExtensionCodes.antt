-- Contents that aren't a certified extension of a host are refused with one code.
use Rattle.std.proofs.Common.{◌≡◌, ◌≢◌, ◌≤◌, ◌⊎◌, ◌∙◌, ℕ, zero, suc, List, [], ◌∷◌, Option, Some, length, inl, inr, ap, arith, refl, subst}
use Rattle.std.proofs.Common.{sym}
use Rattle.std.specs.Prelude.{option_map}
use lib.Chars.{codes}
use Rattle.wb_base.specs.Grammar.{GrammarView}
use Rattle.wb_certify_files.specs.BesideRefusals.{IsAttributeRefusal, IsBesideRefusal}
use Rattle.wb_certify_files.specs.ExtensionContents.{HasBadNames, IsBadText, IsExtensionRefusal, IsRefusedValue, StandsFor}
use Rattle.wb_certify_files.specs.declared.extension_refusal.FileRefusal.TheVariants as f
use Rattle.wb_certify_files.specs.CertifyRefusals.{start_of}
use Rattle.wb_certify_files.specs.certify_refusal.CertifyRefusal.{CertifyRefusal}
use Rattle.wb_certify_files.specs.certify_refusal.CertifyRefusal.TheVariants as c
use Rattle.wb_certify_files.specs.ShownExtensions.{extension_refusal_shown}
use Rattle.wb_certify_files.specs.Shows.{name_reason, of_spec}
use Rattle.wb_lemmas.proofs.Elements.{all_contained, all_from_contained}
use Rattle.wb_certify_files.specs.Resolving.{IsExtensionNameRefusal, IsForOther, ResolvesExtension, extension_file, file_scope}
use Rattle.wb_names_numbers_theory.proofs.OneValue.{only_value}
use Rattle.wb_names_numbers_theory.specs.OneValue.{SeesAll}
use Rattle.wb_names_theory.specs.Refusals.{IsTrueRefusal}
use Rattle.wb_names_theory.specs.declared.refusal.NameRefusal.{NameRefusal}
use Rattle.wb_names_theory.specs.declared.refusal.NameRefusal.TheVariants as n
use Rattle.wb_operations.specs.Operations.{OperationSignature}
use Rattle.wb_reader.proofs.OneText.{one_text}
use Rattle.wb_reader.specs.Refusals.{IsAcceptedText}
use Rattle.wb_report.specs.declared.refusal.Refusal.{Refusal}
use Rattle.wb_syntax.specs.SpecText.{SpecView}
use Rattle.wb_syntax.specs.declared.header.Header.TheVariants as header
use Rattle.wb_syntax_resolved.specs.Named.{IsNamedProduction}
use Rattle.wb_syntax_resolved.specs.Owners.{Sees}
use Rattle.wb_syntax_resolved.specs.Resolved.{IsResolved}
use Rattle.wb_syntax_resolved.specs.declared.production.Production.{Production}
use Rattle.wb_syntax_resolved.specs.declared.resolved.ResolvedParts.{ResolvedParts}
use Rattle.wb_program_theory.proofs.AlikeLemmas.{Alike, NameRules, coded_alike, coded_by, names_coded, names_hold, names_one, none_written}
use Rattle.wb_program_theory.proofs.AlikeLemmas.{three_alike, written_alike}
use Rattle.wb_program_theory.proofs.AttributeCodes.{AttributeRules, Coded, KindRules, after_kinds, attributes_coded, attributes_one, coded}
use Rattle.wb_program_theory.proofs.AttributeCodes.{kinds_coded, kinds_one, none_some}
use Rattle.wb_program_theory.proofs.ChainLemmas.{First, HasOne, first_one, go_on}
use Rattle.wb_program_theory.proofs.MarkerCodes.{MarkerRules, RefusalsExclude, after_beside, beside_coded, markers_one}

-- an extension is no host
no_host : (x : List ℕ) → header.Extension x ≡ header.Host → ⊥
no_host x e = cc

-- contents are one specification at most
one_spec : (contents : List ℕ) (x y : SpecView) → IsAcceptedText contents x → IsAcceptedText contents y → x ≡ y
one_spec contents x y first second = one_text contents x y first.1 second.1

-- of one extension, owners are the host and the extension
two_owners : (owner : ℕ) → owner ≤ 1 → Sees 1 owner
two_owners zero few = inl refl
two_owners (suc zero) few = inr refl
two_owners (suc (suc k)) few = absurd (omega (arith, few))

module _ (host : ResolvedParts) where
  -- each production is the host's or the extension's
  sees_all : (spec : SpecView) (r : ResolvedParts) → IsResolved r → r.attributes.extensions ≡ spec.name ∷ []
      → SeesAll (extension_file host spec) r
  sees_all spec r is one =
      all_from_contained (λ (p : Production). Sees 1 p.owner) r.attributes.productions (λ p has.
      let named = all_contained (IsNamedProduction r.attributes) r.attributes.productions p is.attributes.named.productions has in
      two_owners p.owner (subst (λ (z : List (List ℕ)). p.owner ≤ length z) one named.owner))

  -- contents stand for one value at most
  one_value : (contents : List ℕ) (r s : ResolvedParts) → StandsFor host contents r → StandsFor host contents s → r ≡ s
  one_value contents r s first second =
      let same = one_spec contents second.spec first.spec second.accepted first.accepted in
      let names : ResolvesExtension host first.spec s = subst (λ (z : SpecView). ResolvesExtension host z s) same second.names in
      only_value (extension_file host first.spec) r first.resolved (sees_all first.spec r first.resolved first.names.value.extensions)
      first.names.value s names.value

  module _ (spec : SpecView) where
    -- the first line is an extension's, and the rules of names hold
    abbrev ExtensionNames : List ℕ → Type 0
    ExtensionNames = First (spec.header ≢ header.Host) (codes "N4") (NameRules (file_scope spec.format (extension_file host spec)))

    extension_names_one : HasOne ExtensionNames
    extension_names_one =
        first_one (spec.header ≢ header.Host) (codes "N4") (NameRules (file_scope spec.format (extension_file host spec)))
        (names_one (file_scope spec.format (extension_file host spec)))

    by_header : (refusal : NameRefusal) (shown : Refusal) → ((spec.header ≡ header.Host) × (refusal ≡ n.WrongKind spec.name))
        ⊎ IsForOther host spec refusal
        ⊎ ((spec.header ≡ header.Extension host.host) × IsTrueRefusal (file_scope spec.format (extension_file host spec)) refusal)
        → of_spec (name_reason refusal) ≡ Some shown → Coded ExtensionNames shown
    by_header refusal shown (inl (is, same)) shows =
        coded ExtensionNames _ shown (subst (λ (z : NameRefusal). of_spec (name_reason z) ≡ Some shown) same shows)
        (inl ((λ not. not is), refl), (λ no. no))
    by_header refusal shown (inr (inl other)) shows =
        absurd (none_some (subst (λ (z : NameRefusal). of_spec (name_reason z) ≡ Some shown) other.shown shows))
    by_header refusal shown (inr (inr (own, fails))) shows =
        coded_by (NameRules (file_scope spec.format (extension_file host spec))) ExtensionNames
        (λ x later. inr ((λ is. no_host host.host (sym own ∙ is)), later)) shown
        (names_coded (file_scope spec.format (extension_file host spec)) refusal shown fails shows)

    extension_names_coded : (refusal : NameRefusal) (shown : Refusal) → IsExtensionNameRefusal host spec refusal
        → of_spec (name_reason refusal) ≡ Some shown → Coded ExtensionNames shown
    extension_names_coded (n.Unknown name) shown cause shows = by_header (n.Unknown name) shown cause shows
    extension_names_coded (n.Duplicate name) shown cause shows = by_header (n.Duplicate name) shown cause shows
    extension_names_coded (n.Orphan name) shown cause shows = by_header (n.Orphan name) shown cause shows
    extension_names_coded (n.WrongKind name) shown cause shows = by_header (n.WrongKind name) shown cause shows
    extension_names_coded (n.WrongHost name) shown cause shows = absurd (none_some shows)
    extension_names_coded (n.NoMemory error) shown cause shows = absurd (none_some shows)

    extension_names_hold : (r : ResolvedParts) → ResolvesExtension host spec r → (x : List ℕ) → ExtensionNames x → ⊥
    extension_names_hold r is x rules =
        names_hold (file_scope spec.format (extension_file host spec)) is.names x
        (go_on (spec.header ≢ header.Host) (codes "N4") (NameRules (file_scope spec.format (extension_file host spec))) x rules
        (λ own. no_host host.host (sym is.header ∙ own)))

  module _ (excludes : RefusalsExclude) (operations : List OperationSignature) where
    -- the rules of an extension's attributes, and all
    abbrev Attributes : ResolvedParts → List ℕ → Type 0
    Attributes r = AttributeRules r.attributes (start_of r) (Some 1)

    abbrev ExtensionRules : ResolvedParts → List ℕ → Type 0
    ExtensionRules r = KindRules r.attributes operations (MarkerRules host r (Attributes r))

    extension_one : (r : ResolvedParts) → HasOne (ExtensionRules r)
    extension_one r =
        kinds_one r.attributes operations (MarkerRules host r (Attributes r))
        (markers_one host r (Attributes r) (attributes_one r.attributes (start_of r) (Some 1)))

    -- a refusal of an extension is of the first rule that fails
    value_coded : (r : ResolvedParts) (refusal : CertifyRefusal) (shown : Refusal) → IsBesideRefusal host r operations refusal
        → extension_refusal_shown r refusal ≡ Some shown → Coded (ExtensionRules r) shown
    value_coded r (c.Names refusal) shown reason is = absurd reason
    value_coded r (c.Types refusal) shown reason is =
        kinds_coded r.attributes operations (MarkerRules host r (Attributes r)) refusal shown reason.0 reason.1 is
    value_coded r c.NoStart shown reason is = absurd reason
    value_coded r (c.Determinism refusal) shown reason is =
        let x = reason.0 in
        coded_by (MarkerRules host r (Attributes r)) (ExtensionRules r)
        (after_kinds r.attributes operations (MarkerRules host r (Attributes r)) x.kinds) shown
        (beside_coded host r (Attributes r) x.grammar x.host_grammar x.start x.host_start refusal x.reason reason.1 shown is)
    value_coded r (c.Attributes refusal) shown reason is =
        let x = reason.0 in
        let start : Some x.grammar.start ≡ start_of r = sym (ap (option_map (λ (g : GrammarView). g.start)) x.start) in
        coded_by (Attributes r) (ExtensionRules r) (λ y later. after_kinds r.attributes operations (MarkerRules host r (Attributes r))
        x.kinds y (after_beside host r (Attributes r) x.grammar x.host_grammar x.start x.host_start excludes x.deterministic y later))
        shown
        (attributes_coded r (start_of r) (Some 1) refusal shown
        (subst (λ (s : Option ℕ). IsAttributeRefusal r.attributes s refusal) start x.reason) reason.1 is)
    value_coded r (c.NoMemory error) shown reason is = absurd (none_some is)

    -- contents are refused for what is written, or for names, or their value is
    abbrev Valued : List ℕ → Refusal → Type 0
    Valued contents shown = IsRefusedValue host operations contents (λ refusal. Unit {0}) shown

    -- a report shows this of contents that aren't a certified extension of the host
    abbrev pub IsExtensionShown : List ℕ → Refusal → Type 0
    IsExtensionShown contents shown = IsBadText contents shown ⊎ HasBadNames host contents shown ⊎ Valued contents shown

    names_alike : (contents : List ℕ) (x y : Refusal) → HasBadNames host contents x → HasBadNames host contents y → Alike x y
    names_alike contents x y p q =
        let same = one_spec contents q.spec p.spec q.accepted p.accepted in
        coded_alike (ExtensionNames p.spec) (extension_names_one p.spec) x y
        (extension_names_coded p.spec p.refusal x p.cause p.shows)
        (extension_names_coded p.spec q.refusal y (subst (λ (z : SpecView). IsExtensionNameRefusal host z q.refusal) same q.cause) q.shows)

    names_or_value : (contents : List ℕ) (x y : Refusal) → HasBadNames host contents x → Valued contents y → ⊥
    names_or_value contents x y p q =
        let same = one_spec contents q.stands.spec p.spec q.stands.accepted p.accepted in
        let is_coded : Coded (ExtensionNames p.spec) x = extension_names_coded p.spec p.refusal x p.cause p.shows in
        extension_names_hold p.spec q.value (subst (λ (z : SpecView). ResolvesExtension host z q.value) same q.stands.names) _ is_coded.0

    values_alike : (contents : List ℕ) (x y : Refusal) → Valued contents x → Valued contents y → Alike x y
    values_alike contents x y p q =
        let same = one_value contents q.value p.value q.stands p.stands in
        coded_alike (ExtensionRules p.value) (extension_one p.value) x y (value_coded p.value p.refusal x p.reason p.shows)
        (subst (λ (z : ResolvedParts). Coded (ExtensionRules z) y) same (value_coded q.value q.refusal y q.reason q.shows))

    pub extension_alike : (contents : List ℕ) (x y : Refusal) → IsExtensionShown contents x → IsExtensionShown contents y → Alike x y
    extension_alike contents =
        three_alike (IsBadText contents) (HasBadNames host contents) (Valued contents)
        (λ x y p q. written_alike contents p.refusal q.refusal x y p.cause q.cause p.shows q.shows) (names_alike contents)
        (values_alike contents) (λ x y p q. none_written contents q.spec p.refusal x q.accepted p.cause p.shows)
        (λ x y p q. none_written contents q.stands.spec p.refusal x q.stands.accepted p.cause p.shows) (names_or_value contents)

    value_shown : (contents : List ℕ) (Meets : CertifyRefusal → Type 0) (shown : Refusal)
        → IsRefusedValue host operations contents Meets shown → Valued contents shown
    value_shown contents Meets shown x =
        record { value = x.value; stands = x.stands; refusal = x.refusal; reason = x.reason; meets = tt; shows = x.shows }

    pub specification_shown : (contents : List ℕ) (shown : Refusal)
        → IsExtensionRefusal host operations contents (f.Specification shown) → IsExtensionShown contents shown
    specification_shown contents shown (inl x) = inl x
    specification_shown contents shown (inr (inl x)) = inr (inl x)
    specification_shown contents shown (inr (inr x)) = inr (inr (value_shown contents _ shown x))

    pub certification_shown : (contents : List ℕ) (shown : Refusal)
        → IsExtensionRefusal host operations contents (f.Certification shown) → IsExtensionShown contents shown
    certification_shown contents shown x = inr (inr (value_shown contents _ shown x))
