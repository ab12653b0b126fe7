-- Contents are one certified extension at most, and a refusal of none is true of one.
use Rattle.std.proofs.Common.{◌≡◌, ◌≢◌, ◌≤◌, ◌⊎◌, inl, inr, ◌∷◌, [], ℕ, List, Some, None, length, refl, sym, subst, ◌∙◌, zero, suc, arith}
use Rattle.wb_lemmas.proofs.Elements.{all_from_contained, all_contained}
use Rattle.wb_recheck.specs.Extensions.{IsCertifiedBeside}
use Rattle.wb_recheck.specs.OneCertifyAnswer.{HasOneAnswer as HasOneAnswerBeside, NamesExclude}
use Rattle.wb_recheck.specs.BesideRefusals.{IsBesideRefusal, IsMemory}
use Rattle.wb_recheck.specs.CertifyRefusals.{IsNameMemory}
use Rattle.wb_recheck.specs.certify_refusal.CertifyRefusal.{CertifyRefusal}
use Rattle.wb_recheck.specs.certify_refusal.CertifyRefusal.TheVariants as c
use Rattle.wb_recheck.specs.Resolving.{ResolvesExtension, IsExtensionNameRefusal, IsForOther, extension_file, file_scope}
use Rattle.wb_names_theory.specs.Refusals.{IsTrueRefusal}
use Rattle.wb_names_theory.specs.declared.refusal.NameRefusal.{NameRefusal}
use Rattle.wb_names_theory.specs.declared.refusal.NameRefusal.TheVariants as n
use Rattle.wb_names_numbers_theory.proofs.OneValue.{only_value}
use Rattle.wb_names_numbers_theory.specs.OneValue.{SeesAll}
use Rattle.wb_operations.specs.Operations.{OperationSignature}
use Rattle.wb_reader.proofs.Excluding.{none_refused}
use Rattle.wb_reader.proofs.OneText.{one_text}
use Rattle.wb_reader.specs.OneAnswer.{IsNoMemory}
use Rattle.wb_reader.specs.Refusals.{IsAcceptedText}
use Rattle.wb_reader.specs.declared.refusal.SpecRefusal.{SpecRefusal}
use Rattle.wb_reader.specs.declared.refusal.SpecRefusal.TheVariants as t
use Rattle.wb_report.specs.declared.refusal.Refusal.{Refusal}
use Rattle.wb_syntax_resolved.specs.declared.production.Production.{Production}
use Rattle.wb_syntax_resolved.specs.declared.resolved.ResolvedParts.{ResolvedParts}
use Rattle.wb_syntax_resolved.specs.Named.{IsNamedProduction}
use Rattle.wb_syntax_resolved.specs.Owners.{Sees}
use Rattle.wb_syntax_resolved.specs.Resolved.{IsResolved}
use Rattle.wb_certify_shown.specs.Extensions.{extension_refusal_shown}
use Rattle.wb_certify_shown.specs.Shows.{written_reason, name_reason, of_spec}
use Rattle.wb_syntax.specs.SpecText.{SpecView}
use Rattle.wb_syntax.specs.declared.header.Header.TheVariants as h
use Rattle.wb_certify_files.specs.ExtensionContents.{StandsFor, IsExtensionText, IsBadText, HasBadNames, IsOfKinds, IsRefusedValue}
use Rattle.wb_certify_files.specs.ExtensionContents.{NamesOtherHost, IsExtensionRefusal}
use Rattle.wb_certify_files.specs.OneExtensionAnswer.{HaveOneExtensionAnswer, HaveOneHeader, IsFileMemory}
use Rattle.wb_certify_files.specs.Specifications.{IsHeaderRefusal, IsSpecFor}
use Rattle.wb_certify_files.proofs.ExtensionLemmas.{header_refused}
use Rattle.wb_certify_files.specs.declared.extension_refusal.FileRefusal.{FileRefusal}
use Rattle.wb_certify_files.specs.declared.extension_refusal.FileRefusal.TheVariants as f

-- what certification beside a host says of its answers
abbrev pub ExcludesBeside : Type 0
ExcludesBeside = (host r : ResolvedParts) (operations : List OperationSignature) → HasOneAnswerBeside host r operations

-- and what is said of names
abbrev pub ExcludesNames : Type 0
ExcludesNames = (host : ResolvedParts) (spec : SpecView) (r : ResolvedParts) → NamesExclude host spec r

-- nothing is no something, and no header is another
none_some : {X : Type 0} {x : X} → None ≡ Some x → ⊥
none_some e = cc

same_name : (x y : List ℕ) → h.Extension x ≡ h.Extension y → x ≡ y
same_name x y e = cc

no_host : (x : List ℕ) → h.Extension x ≡ h.Host → ⊥
no_host x e = cc

-- contents are one specification at most
one_spec : (contents : List ℕ) (x y : SpecView) → IsAcceptedText contents x → IsAcceptedText contents y → x ≡ y
one_spec contents x y first second = one_text contents x y first.1 second.1

-- of one extension, owners are the host and the extension
two_owners : (owner : ℕ) → owner ≤ 1 → Sees 1 owner
two_owners zero few = inl refl
two_owners (suc zero) few = inr refl
two_owners (suc (suc k)) few = absurd (omega (arith, few))

-- contents that are a specification aren't refused as text
not_memory : (refusal : SpecRefusal) (shown : Refusal) → of_spec (written_reason refusal) ≡ Some shown → IsNoMemory refusal → ⊥
not_memory t.TooLong shown is memory = absurd memory
not_memory t.WrongFormat shown is memory = absurd memory
not_memory (t.Syntax at) shown is memory = absurd memory
not_memory (t.BadRegex at) shown is memory = absurd memory
not_memory (t.MatchesEmpty name) shown is memory = absurd memory
not_memory (t.NoMemory error) shown is memory = none_some is

pub no_bad_text : (contents : List ℕ) (shown : Refusal) (spec : SpecView) → IsAcceptedText contents spec → IsBadText contents shown → ⊥
no_bad_text contents shown spec accepted bad =
    not_memory bad.refusal shown bad.shows (none_refused contents spec bad.refusal accepted bad.cause)

-- a refusal of names for being out of memory isn't shown
name_not_memory : (refusal : NameRefusal) (shown : Refusal) → of_spec (name_reason refusal) ≡ Some shown → IsNameMemory refusal → ⊥
name_not_memory (n.Unknown name) shown is memory = absurd memory
name_not_memory (n.Duplicate name) shown is memory = absurd memory
name_not_memory (n.Orphan name) shown is memory = absurd memory
name_not_memory (n.WrongKind name) shown is memory = absurd memory
name_not_memory (n.WrongHost name) shown is memory = none_some is
name_not_memory (n.NoMemory error) shown is memory = none_some is

-- nor is that of certification
not_value_memory : (r : ResolvedParts) (refusal : CertifyRefusal) (shown : Refusal) → extension_refusal_shown r refusal ≡ Some shown
    → IsMemory refusal → ⊥
not_value_memory r (c.Names refusal) shown is memory = absurd memory
not_value_memory r (c.Types refusal) shown is memory = absurd memory
not_value_memory r c.NoStart shown is memory = absurd memory
not_value_memory r (c.Determinism refusal) shown is memory = absurd memory
not_value_memory r (c.Attributes refusal) shown is memory = absurd memory
not_value_memory r (c.NoMemory error) shown is memory = none_some is

module _ (host : ResolvedParts) where
  -- each production is the host's or the extension's
  sees_all : (spec : SpecView) (r : ResolvedParts) → IsResolved r → r.attributes.extensions ≡ spec.name ∷ []
      → SeesAll (extension_file host spec) r
  sees_all spec r is one =
      all_from_contained (λ (p : Production). Sees 1 p.owner) r.attributes.productions (λ p has.
      let named = all_contained (IsNamedProduction r.attributes) r.attributes.productions p is.attributes.named.productions has in
      two_owners p.owner (subst (λ (z : List (List ℕ)). p.owner ≤ length z) one named.owner))

  -- contents stand for one value at most
  pub one_value : (contents : List ℕ) (r s : ResolvedParts) → StandsFor host contents r → StandsFor host contents s → r ≡ s
  one_value contents r s first second =
      let same = one_spec contents second.spec first.spec second.accepted first.accepted in
      let names : ResolvesExtension host first.spec s = subst (λ (z : SpecView). ResolvesExtension host z s) same second.names in
      only_value (extension_file host first.spec) r first.resolved (sees_all first.spec r first.resolved first.names.value.extensions)
      first.names.value s names.value

  -- contents that stand for a value name this host
  pub no_other_host : (contents name : List ℕ) (r : ResolvedParts) → StandsFor host contents r → NamesOtherHost host contents name → ⊥
  no_other_host contents name r stands other =
      let same = one_spec contents other.spec stands.spec other.accepted stands.accepted in
      let header = subst (λ (z : SpecView). z.header ≡ h.Extension name) same other.header in
      other.differs (same_name name host.host (sym header ∙ stands.names.header))

  -- another host has one name
  pub one_host : (contents : List ℕ) (name other : List ℕ) → NamesOtherHost host contents name → NamesOtherHost host contents other
      → name ≡ other
  one_host contents name other first second =
      let same = one_spec contents first.spec second.spec first.accepted second.accepted in
      let header = subst (λ (z : SpecView). z.header ≡ h.Extension name) same first.header in
      same_name name other (sym header ∙ second.header)

  -- names of an extension for another host aren't refused otherwise
  by_header : (spec : SpecView) (name : List ℕ) (shown : Refusal) → spec.header ≡ h.Extension name → name ≢ host.host
      → (refusal : NameRefusal) → ((spec.header ≡ h.Host) × (refusal ≡ n.WrongKind spec.name)) ⊎ IsForOther host spec refusal
      ⊎ ((spec.header ≡ h.Extension host.host) × IsTrueRefusal (file_scope spec.format (extension_file host spec)) refusal)
      → of_spec (name_reason refusal) ≡ Some shown → ⊥
  by_header spec name shown header differs refusal (inl (is, reason)) shows = no_host name (sym header ∙ is)
  by_header spec name shown header differs refusal (inr (inl other)) shows =
      none_some (subst (λ (z : NameRefusal). of_spec (name_reason z) ≡ Some shown) other.shown shows)
  by_header spec name shown header differs refusal (inr (inr (is, fails))) shows = differs (same_name name host.host (sym header ∙ is))

  other_excludes : (spec : SpecView) (name : List ℕ) (shown : Refusal) → spec.header ≡ h.Extension name → name ≢ host.host
      → (refusal : NameRefusal) → IsExtensionNameRefusal host spec refusal → of_spec (name_reason refusal) ≡ Some shown → ⊥
  other_excludes spec name shown header differs (n.Unknown x) cause = by_header spec name shown header differs (n.Unknown x) cause
  other_excludes spec name shown header differs (n.Duplicate x) cause = by_header spec name shown header differs (n.Duplicate x) cause
  other_excludes spec name shown header differs (n.Orphan x) cause = by_header spec name shown header differs (n.Orphan x) cause
  other_excludes spec name shown header differs (n.WrongKind x) cause = by_header spec name shown header differs (n.WrongKind x) cause
  other_excludes spec name shown header differs (n.WrongHost x) cause = none_some
  other_excludes spec name shown header differs (n.NoMemory error) cause = none_some

  -- so contents that name another host aren't refused for names
  pub names_or_host : (contents : List ℕ) (shown : Refusal) (name : List ℕ) → NamesOtherHost host contents name
      → HasBadNames host contents shown → ⊥
  names_or_host contents shown name other bad =
      let same = one_spec contents bad.spec other.spec bad.accepted other.accepted in
      other_excludes other.spec name shown other.header other.differs bad.refusal
      (subst (λ (z : SpecView). IsExtensionNameRefusal host z bad.refusal) same bad.cause) bad.shows

  -- an extension of this host isn't refused for its first line
  header_excluded : (contents : List ℕ) (spec : SpecView) → IsSpecFor host contents spec → (refusal : FileRefusal)
      → IsHeaderRefusal host contents refusal → IsFileMemory refusal
  header_excluded contents spec is (f.Specification shown) (inl bad) = absurd (no_bad_text contents shown spec is.accepted bad)
  header_excluded contents spec is (f.Specification shown) (inr other) =
      let same = one_spec contents other.spec spec other.accepted is.accepted in
      let header = subst (λ (z : SpecView). z.header ≡ h.Host) same other.header in
      absurd (no_host host.host (sym is.header ∙ header))
  header_excluded contents spec is (f.WrongHost name) other =
      let same = one_spec contents other.spec spec other.accepted is.accepted in
      let header = subst (λ (z : SpecView). z.header ≡ h.Extension name) same other.header in
      absurd (other.differs (same_name name host.host (sym header ∙ is.header)))
  header_excluded contents spec is (f.Certification shown) refused = absurd refused
  header_excluded contents spec is (f.NoMemory error) refused = tt

-- contents have one answer by their first line
pub one_header : (host : ResolvedParts) (contents : List ℕ) → HaveOneHeader host contents
one_header host contents = record {
  one = λ x y first second. one_spec contents x y first.accepted second.accepted;
  excluded = header_excluded host contents;
  refused = λ operations. header_refused host operations contents;
}

module _ (beside : ExcludesBeside) (names : ExcludesNames) (host : ResolvedParts) where
  -- contents whose names are right aren't refused for names
  pub no_bad_names : (contents : List ℕ) (shown : Refusal) (r : ResolvedParts) → StandsFor host contents r
      → HasBadNames host contents shown → ⊥
  no_bad_names contents shown r stands bad =
      let same = one_spec contents bad.spec stands.spec bad.accepted stands.accepted in
      let cause = subst (λ (z : SpecView). IsExtensionNameRefusal host z bad.refusal) same bad.cause in
      name_not_memory bad.refusal shown bad.shows (names host stands.spec r stands.names bad.refusal cause)

  -- refusals of one value aren't one of kinds and one of other rules
  kinds_or_others : (r : ResolvedParts) (operations : List OperationSignature) (first second : CertifyRefusal) (shown : Refusal)
      → IsBesideRefusal host r operations first → IsOfKinds first → IsBesideRefusal host r operations second → ¬ IsOfKinds second
      → extension_refusal_shown r second ≡ Some shown → ⊥
  kinds_or_others r operations (c.Names x) second shown reason of_kinds other others shows = absurd of_kinds
  kinds_or_others r operations c.NoStart second shown reason of_kinds other others shows = absurd of_kinds
  kinds_or_others r operations (c.Determinism x) second shown reason of_kinds other others shows = absurd of_kinds
  kinds_or_others r operations (c.Attributes x) second shown reason of_kinds other others shows = absurd of_kinds
  kinds_or_others r operations (c.NoMemory x) second shown reason of_kinds other others shows = absurd of_kinds
  kinds_or_others r operations (c.Types x) (c.Names y) shown reason of_kinds other others shows = absurd other
  kinds_or_others r operations (c.Types x) (c.Types y) shown reason of_kinds other others shows = others tt
  kinds_or_others r operations (c.Types x) c.NoStart shown reason of_kinds other others shows = absurd other
  kinds_or_others r operations (c.Types x) (c.Determinism y) shown reason of_kinds other others shows =
      (beside host r operations).sorts.kinds_determinism x y reason other
  kinds_or_others r operations (c.Types x) (c.Attributes y) shown reason of_kinds other others shows =
      (beside host r operations).sorts.kinds_attributes x y reason other
  kinds_or_others r operations (c.Types x) (c.NoMemory y) shown reason of_kinds other others shows = none_some shows

  module _ (operations : List OperationSignature) (contents : List ℕ) where
    -- contents that are certified aren't refused for their value
    no_refused : (r : ResolvedParts) (shown : Refusal) (Meets : CertifyRefusal → Type 0) → IsExtensionText host operations contents r
        → IsRefusedValue host operations contents Meets shown → ⊥
    no_refused r shown Meets is refused =
        let same = one_value host contents r refused.value is.stands refused.stands in
        let certified = subst (λ (z : ResolvedParts). IsCertifiedBeside host z operations) same is.certified in
        not_value_memory refused.value refused.refusal shown refused.shows
        ((beside host refused.value operations).certified certified refused.refusal refused.reason)

    certified_excludes : (r : ResolvedParts) → IsExtensionText host operations contents r → (refusal : FileRefusal)
        → IsExtensionRefusal host operations contents refusal → IsFileMemory refusal
    certified_excludes r is (f.Specification shown) (inl bad) = absurd (no_bad_text contents shown is.stands.spec is.stands.accepted bad)
    certified_excludes r is (f.Specification shown) (inr (inl bad)) = absurd (no_bad_names contents shown r is.stands bad)
    certified_excludes r is (f.Specification shown) (inr (inr value)) = absurd (no_refused r shown IsOfKinds is value)
    certified_excludes r is (f.WrongHost name) other = absurd (no_other_host host contents name r is.stands other)
    certified_excludes r is (f.Certification shown) value = absurd (no_refused r shown (λ refusal. ¬ IsOfKinds refusal) is value)
    certified_excludes r is (f.NoMemory error) value = tt

    specification_or_host : (shown : Refusal) (name : List ℕ) → IsExtensionRefusal host operations contents (f.Specification shown)
        → NamesOtherHost host contents name → ⊥
    specification_or_host shown name (inl bad) other = no_bad_text contents shown other.spec other.accepted bad
    specification_or_host shown name (inr (inl bad)) other = names_or_host host contents shown name other bad
    specification_or_host shown name (inr (inr value)) other = no_other_host host contents name value.value value.stands other

    specification_or_certification : (shown other : Refusal) → IsExtensionRefusal host operations contents (f.Specification shown)
        → IsExtensionRefusal host operations contents (f.Certification other) → ⊥
    specification_or_certification shown other (inl bad) second = no_bad_text contents shown second.stands.spec second.stands.accepted bad
    specification_or_certification shown other (inr (inl bad)) second = no_bad_names contents shown second.value second.stands bad
    specification_or_certification shown other (inr (inr first)) second =
        let same = one_value host contents second.value first.value second.stands first.stands in
        let reason = subst (λ (z : ResolvedParts). IsBesideRefusal host z operations second.refusal) same second.reason in
        let shows = subst (λ (z : ResolvedParts). extension_refusal_shown z second.refusal ≡ Some other) same second.shows in
        kinds_or_others first.value operations first.refusal second.refusal other first.reason first.meets reason second.meets shows

    -- contents have one answer
    pub one_answer : HaveOneExtensionAnswer host operations contents
    one_answer = record {
      one = λ r s first second. one_value host contents r s first.stands second.stands;
      certified = certified_excludes;
      sorts = record {
        specification_host = specification_or_host;
        specification_certification = specification_or_certification;
        host_certification = λ name shown other value. no_other_host host contents name value.value value.stands other;
        one_host = one_host host contents;
      };
    }
