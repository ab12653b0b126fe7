-- Contents that aren't a certified host, or one with well-defined attributes, are refused with one code.
use Rattle.std.proofs.Common.{◌≡◌, ◌≤◌, ◌⊎◌, ◌∙◌, ℕ, List, [], Option, None, Some, length, inl, inr, arith, refl, subst, sym}
use lib.Chars.{codes}
use Rattle.wb_base.specs.Grammar.{GrammarView}
use Rattle.wb_certify_files.specs.HostContents.{HasBadNames, IsBadText, IsHostRefusal, IsRefusedValue, StandsFor}
use Rattle.wb_certify_files.specs.WellDefined.{IsIllDefined, IsWellDefinedTextRefusal}
use Rattle.wb_certify_files.specs.declared.host_refusal.HostRefusal.TheVariants as h
use Rattle.wb_certify_files.specs.CertifyRefusals.{IsDeterminismOf, IsValueRefusal, start_of}
use Rattle.wb_certify_files.specs.WellDefinedHosts.{IsWellDefinedRefusal}
use Rattle.wb_certify_files.specs.certify_refusal.CertifyRefusal.{CertifyRefusal}
use Rattle.wb_certify_files.specs.certify_refusal.CertifyRefusal.TheVariants as c
use Rattle.wb_certify_files.specs.Shows.{grammar_reason, name_reason, of_grammar, of_spec, refusal_shown}
use Rattle.wb_determinism_host.specs.Hosts.{AreAcyclic}
use Rattle.wb_determinism_host.specs.Refusals.{IsNoMemory}
use Rattle.wb_determinism_host.specs.declared.refusal.DeterminismRefusal.{DeterminismRefusal}
use Rattle.wb_determinism_host.specs.declared.refusal.DeterminismRefusal.TheVariants as d
use Rattle.wb_lemmas.proofs.Elements.{all_contained, all_from_contained}
use Rattle.wb_certify_files.specs.Resolving.{IsExtension, IsHostNameRefusal, ResolvesHost, file_scope, host_file}
use Rattle.wb_names_numbers_theory.proofs.OneValue.{only_value}
use Rattle.wb_names_numbers_theory.specs.OneValue.{SeesAll}
use Rattle.wb_names_theory.specs.Refusals.{IsTrueRefusal}
use Rattle.wb_names_theory.specs.declared.refusal.NameRefusal.{NameRefusal}
use Rattle.wb_names_theory.specs.declared.refusal.NameRefusal.TheVariants as n
use Rattle.wb_operations.specs.Operations.{OperationSignature}
use Rattle.wb_reader.proofs.OneText.{one_text}
use Rattle.wb_reader.specs.Refusals.{IsAcceptedText}
use Rattle.wb_report.specs.declared.refusal.Refusal.{Refusal}
use Rattle.wb_syntax.specs.SpecText.{SpecView}
use Rattle.wb_syntax.specs.declared.header.Header.TheVariants as header
use Rattle.wb_syntax_resolved.specs.Named.{IsNamedProduction}
use Rattle.wb_syntax_resolved.specs.Owners.{Sees}
use Rattle.wb_syntax_resolved.specs.Resolved.{IsResolved}
use Rattle.wb_syntax_resolved.specs.declared.production.Production.{Production}
use Rattle.wb_syntax_resolved.specs.declared.resolved.ResolvedParts.{ResolvedParts}
use Rattle.wb_program_theory.proofs.AlikeLemmas.{Alike, NameRules, coded_alike, coded_by, names_coded, names_hold, names_one, none_written}
use Rattle.wb_program_theory.proofs.AlikeLemmas.{three_alike, written_alike}
use Rattle.wb_program_theory.proofs.AttributeCodes.{AttributeRules, Coded, KindRules, after_kinds, attributes_coded, attributes_one, coded}
use Rattle.wb_program_theory.proofs.AttributeCodes.{kinds_coded, kinds_one, none_some}
use Rattle.wb_program_theory.proofs.ChainLemmas.{First, HasOne, first_one, go_on}
use Rattle.wb_determinism_host.specs.Lexicons.{lexicon_of}
use Rattle.wb_program_theory.proofs.GrammarCodes.{GrammarRules, after_grammar, grammar_coded, grammar_one}

-- a host is no extension
no_extension : (host : List ℕ) → header.Host ≡ header.Extension host → ⊥
no_extension host e = cc

-- contents are one specification at most
one_spec : (contents : List ℕ) (x y : SpecView) → IsAcceptedText contents x → IsAcceptedText contents y → x ≡ y
one_spec contents x y first second = one_text contents x y first.1 second.1

-- each production of a host is its own
sees_all : (spec : SpecView) (r : ResolvedParts) → IsResolved r → r.attributes.extensions ≡ [] → SeesAll (host_file spec) r
sees_all spec r is alone =
    all_from_contained (λ (p : Production). Sees 0 p.owner) r.attributes.productions (λ p has.
    let named = all_contained (IsNamedProduction r.attributes) r.attributes.productions p is.attributes.named.productions has in
    let few : p.owner ≤ 0 = subst (λ (z : List (List ℕ)). p.owner ≤ length z) alone named.owner in
    inl (omega (arith, few)))

-- they stand for one value at most
one_value : (contents : List ℕ) (r s : ResolvedParts) → StandsFor contents r → StandsFor contents s → r ≡ s
one_value contents r s first second =
    let same = one_spec contents second.spec first.spec second.accepted first.accepted in
    let names : ResolvesHost first.spec s = subst (λ (z : SpecView). ResolvesHost z s) same second.names in
    only_value (host_file first.spec) r first.resolved (sees_all first.spec r first.resolved first.names.value.extensions)
    first.names.value s names.value

module _ (spec : SpecView) where
  -- the first line is a host's, and the rules of names hold
  abbrev HostNames : List ℕ → Type 0
  HostNames = First (spec.header ≡ header.Host) (codes "N4") (NameRules (file_scope spec.format (host_file spec)))

  host_names_one : HasOne HostNames
  host_names_one =
      first_one (spec.header ≡ header.Host) (codes "N4") (NameRules (file_scope spec.format (host_file spec)))
      (names_one (file_scope spec.format (host_file spec)))

  by_header : (refusal : NameRefusal) (shown : Refusal) → (IsExtension spec.header × (refusal ≡ n.WrongKind spec.name))
      ⊎ ((spec.header ≡ header.Host) × IsTrueRefusal (file_scope spec.format (host_file spec)) refusal)
      → of_spec (name_reason refusal) ≡ Some shown → Coded HostNames shown
  by_header refusal shown (inl ((host, is), same)) shows =
      coded HostNames _ shown (subst (λ (z : NameRefusal). of_spec (name_reason z) ≡ Some shown) same shows)
      (inl ((λ own. no_extension host (sym own ∙ is)), refl), (λ no. no))
  by_header refusal shown (inr (own, fails)) shows =
      coded_by (NameRules (file_scope spec.format (host_file spec))) HostNames (λ x later. inr (own, later)) shown
      (names_coded (file_scope spec.format (host_file spec)) refusal shown fails shows)

  host_names_coded : (refusal : NameRefusal) (shown : Refusal) → IsHostNameRefusal spec refusal
      → of_spec (name_reason refusal) ≡ Some shown → Coded HostNames shown
  host_names_coded (n.Unknown name) shown cause shows = by_header (n.Unknown name) shown cause shows
  host_names_coded (n.Duplicate name) shown cause shows = by_header (n.Duplicate name) shown cause shows
  host_names_coded (n.Orphan name) shown cause shows = by_header (n.Orphan name) shown cause shows
  host_names_coded (n.WrongKind name) shown cause shows = by_header (n.WrongKind name) shown cause shows
  host_names_coded (n.WrongHost name) shown cause shows = absurd (none_some shows)
  host_names_coded (n.NoMemory error) shown cause shows = absurd (none_some shows)

  host_names_hold : (r : ResolvedParts) → ResolvesHost spec r → (x : List ℕ) → HostNames x → ⊥
  host_names_hold r is x rules =
      names_hold (file_scope spec.format (host_file spec)) is.names x
      (go_on (spec.header ≡ header.Host) (codes "N4") (NameRules (file_scope spec.format (host_file spec))) x rules is.header)

module _ (r : ResolvedParts) (operations : List OperationSignature) where
  -- there is a start
  abbrev HasStart : Type 0
  HasStart = (g : GrammarView) × (r.grammar ≡ Some g)

  -- the rules of a host's attributes, of its grammar, and all
  abbrev Attributes : List ℕ → Type 0
  Attributes = AttributeRules r.attributes (start_of r) None

  abbrev Grammar : List ℕ → Type 0
  Grammar = GrammarRules r r.grammar (lexicon_of r) Attributes

  abbrev Started : List ℕ → Type 0
  Started = First HasStart (codes "G1") Grammar

  abbrev Sound : List ℕ → Type 0
  Sound = First (AreAcyclic r) (codes "G6") Started

  abbrev HostRules : List ℕ → Type 0
  HostRules = KindRules r.attributes operations Sound

  abbrev WellDefinedRules : List ℕ → Type 0
  WellDefinedRules = KindRules r.attributes operations Attributes

  host_one : HasOne HostRules
  host_one =
      kinds_one r.attributes operations Sound (first_one (AreAcyclic r) (codes "G6") Started
      (first_one HasStart (codes "G1") Grammar
      (grammar_one r r.grammar (lexicon_of r) Attributes (attributes_one r.attributes (start_of r) None))))

  well_defined_one : HasOne WellDefinedRules
  well_defined_one = kinds_one r.attributes operations Attributes (attributes_one r.attributes (start_of r) None)

  -- a refusal for the grammar, where there is one or not
  determinism_coded : (there : Option GrammarView) → r.grammar ≡ there → (refusal : DeterminismRefusal)
      → IsDeterminismOf r there refusal → ¬ IsNoMemory refusal → (shown : Refusal)
      → of_grammar (grammar_reason r refusal) ≡ Some shown → Coded Sound shown
  determinism_coded (Some g) start refusal fails other shown is =
      grammar_coded r r.grammar (lexicon_of r) Attributes g start Sound (λ acyclic x later. inr (acyclic, inr ((g, start), later)))
      (λ cycle has. inl ((λ acyclic. acyclic cycle has.cycle_is), refl)) refusal fails other shown is
  determinism_coded None start (d.PreferenceCycle cycle) fails other shown is =
      coded Sound _ shown is (inl ((λ acyclic. acyclic cycle fails.cycle_is), refl), (λ no. no))
  determinism_coded None start (d.Markers m) fails other shown is = absurd fails
  determinism_coded None start (d.NotReduced reason) fails other shown is = absurd fails
  determinism_coded None start (d.UnitCycle list) fails other shown is = absurd fails
  determinism_coded None start (d.HiddenLeftRecursion list) fails other shown is = absurd fails
  determinism_coded None start (d.Conflict p t a b) fails other shown is = absurd fails
  determinism_coded None start (d.Clash p a b t) fails other shown is = absurd fails
  determinism_coded None start (d.Lookahead p i t) fails other shown is = absurd fails
  determinism_coded None start (d.Envelope p f) fails other shown is = absurd fails
  determinism_coded None start (d.NoMemory e) fails other shown is = absurd fails

  -- a refusal of a host is of the first rule that fails
  value_coded : (refusal : CertifyRefusal) (shown : Refusal) → IsValueRefusal r operations refusal
      → refusal_shown r refusal ≡ Some shown → Coded HostRules shown
  value_coded (c.Names refusal) shown reason is = absurd reason
  value_coded (c.Types refusal) shown reason is = kinds_coded r.attributes operations Sound refusal shown reason.0 reason.1 is
  value_coded c.NoStart shown reason is =
      coded HostRules _ shown is (
        after_kinds r.attributes operations Sound reason.kinds (codes "G1")
            (inr (reason.acyclic, inl ((λ has. none_some (sym reason.none ∙ has.1)), refl))),
        (λ no. no),
      )
  value_coded (c.Determinism refusal) shown reason is =
      coded_by Sound HostRules (after_kinds r.attributes operations Sound reason.0.kinds) shown
      (determinism_coded r.grammar refl refusal reason.0.reason reason.1 shown is)
  value_coded (c.Attributes refusal) shown reason is =
      let there = reason.0.deterministic in
      coded_by Attributes HostRules (λ x later. after_kinds r.attributes operations Sound reason.0.kinds x
      (inr (
        there.deterministic.fit.sound.acyclic,
        inr (
          (there.grammar, there.start),
          after_grammar r r.grammar (lexicon_of r) Attributes there.grammar there.start there.deterministic x later,
        ),
      ))) shown
      (attributes_coded r (start_of r) None refusal shown (elim reason.0.reason [ inl x ↦ inl x | inr x ↦ inr (inl x) ]) reason.1 is)
  value_coded (c.NoMemory error) shown reason is = absurd (none_some is)

  -- and so is one of a host whose attributes are asked about
  well_defined_coded : (refusal : CertifyRefusal) (shown : Refusal) → IsWellDefinedRefusal r operations refusal
      → refusal_shown r refusal ≡ Some shown → Coded WellDefinedRules shown
  well_defined_coded (c.Types refusal) shown reason is =
      kinds_coded r.attributes operations Attributes refusal shown reason.0 reason.1 is
  well_defined_coded (c.Attributes refusal) shown reason is =
      coded_by Attributes WellDefinedRules (after_kinds r.attributes operations Attributes reason.0.kinds) shown
      (attributes_coded r (start_of r) None refusal shown (elim reason.0.reason [ inl x ↦ inl x | inr x ↦ inr (inl x) ]) reason.1 is)
  well_defined_coded (c.Names refusal) shown reason is = absurd reason
  well_defined_coded c.NoStart shown reason is = absurd reason
  well_defined_coded (c.Determinism refusal) shown reason is = absurd reason
  well_defined_coded (c.NoMemory error) shown reason is = absurd (none_some is)

-- contents are refused for what is written, or for names, or their value is
module _ (Valued : List ℕ → Refusal → Type 0) (Rules : ResolvedParts → List ℕ → Type 0) (one : (r : ResolvedParts) → HasOne (Rules r))
    (valued : (contents : List ℕ) (shown : Refusal) → Valued contents shown
    → (r : ResolvedParts) × StandsFor contents r × Coded (Rules r) shown)
    (contents : List ℕ) where
  names_alike : (x y : Refusal) → HasBadNames contents x → HasBadNames contents y → Alike x y
  names_alike x y p q =
      let same = one_spec contents q.spec p.spec q.accepted p.accepted in
      coded_alike (HostNames p.spec) (host_names_one p.spec) x y (host_names_coded p.spec p.refusal x p.cause p.shows)
      (host_names_coded p.spec q.refusal y (subst (λ (z : SpecView). IsHostNameRefusal z q.refusal) same q.cause) q.shows)

  names_or_value : (x y : Refusal) → HasBadNames contents x → Valued contents y → ⊥
  names_or_value x y p q =
      let (r, stands, is) = valued contents y q in
      let same = one_spec contents stands.spec p.spec stands.accepted p.accepted in
      let is_coded : Coded (HostNames p.spec) x = host_names_coded p.spec p.refusal x p.cause p.shows in
      host_names_hold p.spec r (subst (λ (z : SpecView). ResolvesHost z r) same stands.names) _ is_coded.0

  values_alike : (x y : Refusal) → Valued contents x → Valued contents y → Alike x y
  values_alike x y p q =
      let (r, stands, is) = valued contents x p in
      let (s, stands', is') = valued contents y q in
      let same = one_value contents s r stands' stands in
      coded_alike (Rules r) (one r) x y is (subst (λ (z : ResolvedParts). Coded (Rules z) y) same is')

  pub contents_alike : (x y : Refusal) → IsBadText contents x ⊎ HasBadNames contents x ⊎ Valued contents x
      → IsBadText contents y ⊎ HasBadNames contents y ⊎ Valued contents y → Alike x y
  contents_alike =
      three_alike (IsBadText contents) (HasBadNames contents) (Valued contents)
      (λ x y p q. written_alike contents p.refusal q.refusal x y p.cause q.cause p.shows q.shows) names_alike values_alike
      (λ x y p q. none_written contents q.spec p.refusal x q.accepted p.cause p.shows)
      (λ x y p q. let (r, stands, is) = valued contents y q in
      none_written contents stands.spec p.refusal x stands.accepted p.cause p.shows) names_or_value

module _ (operations : List OperationSignature) where
  -- a report shows this of contents that aren't a certified host
  abbrev pub IsHostShown : List ℕ → Refusal → Type 0
  IsHostShown contents shown =
      IsBadText contents shown ⊎ HasBadNames contents shown ⊎ IsRefusedValue operations contents (λ refusal. Unit {0}) shown

  pub host_alike : (contents : List ℕ) (x y : Refusal) → IsHostShown contents x → IsHostShown contents y → Alike x y
  host_alike =
      contents_alike (λ contents shown. IsRefusedValue operations contents (λ refusal. Unit {0}) shown)
      (λ r. HostRules r operations) (λ r. host_one r operations)
      (λ contents shown x. (x.value, x.stands, value_coded x.value operations x.refusal shown x.reason x.shows))

  value_shown : (contents : List ℕ) (Meets : CertifyRefusal → Type 0) (shown : Refusal)
      → IsRefusedValue operations contents Meets shown → IsRefusedValue operations contents (λ refusal. Unit {0}) shown
  value_shown contents Meets shown x =
      record { value = x.value; stands = x.stands; refusal = x.refusal; reason = x.reason; meets = tt; shows = x.shows }

  pub specification_shown : (contents : List ℕ) (shown : Refusal) → IsHostRefusal operations contents (h.Specification shown)
      → IsHostShown contents shown
  specification_shown contents shown (inl x) = inl x
  specification_shown contents shown (inr (inl x)) = inr (inl x)
  specification_shown contents shown (inr (inr x)) = inr (inr (value_shown contents _ shown x))

  pub certification_shown : (contents : List ℕ) (shown : Refusal) → IsHostRefusal operations contents (h.Certification shown)
      → IsHostShown contents shown
  certification_shown contents shown x = inr (inr (value_shown contents _ shown x))

  -- and this of contents that aren't a host whose attributes are well defined
  abbrev pub IsWellDefinedShown : List ℕ → Refusal → Type 0
  IsWellDefinedShown contents shown =
      IsBadText contents shown ⊎ HasBadNames contents shown ⊎ IsIllDefined operations contents (λ refusal. Unit {0}) shown

  pub well_defined_alike : (contents : List ℕ) (x y : Refusal) → IsWellDefinedShown contents x → IsWellDefinedShown contents y
      → Alike x y
  well_defined_alike =
      contents_alike (λ contents shown. IsIllDefined operations contents (λ refusal. Unit {0}) shown)
      (λ r. WellDefinedRules r operations) (λ r. well_defined_one r operations)
      (λ contents shown x. (x.value, x.stands, well_defined_coded x.value operations x.refusal shown x.reason x.shows))

  ill_defined_shown : (contents : List ℕ) (Meets : CertifyRefusal → Type 0) (shown : Refusal)
      → IsIllDefined operations contents Meets shown → IsIllDefined operations contents (λ refusal. Unit {0}) shown
  ill_defined_shown contents Meets shown x =
      record { value = x.value; stands = x.stands; refusal = x.refusal; reason = x.reason; meets = tt; shows = x.shows }

  pub written_shown : (contents : List ℕ) (shown : Refusal) → IsWellDefinedTextRefusal operations contents (h.Specification shown)
      → IsWellDefinedShown contents shown
  written_shown contents shown (inl x) = inl x
  written_shown contents shown (inr (inl x)) = inr (inl x)
  written_shown contents shown (inr (inr x)) = inr (inr (ill_defined_shown contents _ shown x))

  pub attributes_shown : (contents : List ℕ) (shown : Refusal) → IsWellDefinedTextRefusal operations contents (h.Certification shown)
      → IsWellDefinedShown contents shown
  attributes_shown contents shown x = inr (inr (ill_defined_shown contents _ shown x))
