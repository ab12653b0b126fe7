-- What may be asked of the host may be asked with extensions, and nothing else that is the host's.
use Rattle.std.proofs.Common.{◌≡◌, ◌∙◌, [], ℕ, List, Option, Some, None, IsSomeAnd, map, option_map, slice_get, refl, sym, ap, subst}
use Rattle.std.specs.Prelude.{Contains}
use Rattle.std.proofs.lemmas.Option.{same_Some}
use Rattle.wb_base.specs.Different.{Differ}
use Rattle.wb_lemmas.proofs.Members.{contains_at, place_of}
use Rattle.wb_flow_theory.specs.Occurrences.{Needs}
use Rattle.wb_operations.specs.Operations.{OperationSignature}
use Rattle.wb_syntax_resolved.specs.Attribution.{IsAttribution}
use Rattle.wb_syntax_resolved.specs.declared.attributes.Attribute.{Attribute}
use Rattle.wb_syntax_resolved.specs.declared.attributes.Direction.TheVariants.{Synthesized}
use Rattle.wb_syntax_resolved.specs.declared.attribution.AttributionParts.{AttributionParts}
use Rattle.wb_syntax_resolved.specs.declared.resolved.ResolvedParts.{ResolvedParts}
use Rattle.wb_syntax_resolved.specs.Owners.{printed_name}
use Rattle.wb_compose.specs.AttributeNumbers.{NumberMap}
use Rattle.wb_compose_theory_grammar.proofs.FactLemmas.{map_at}
use Rattle.wb_compose.specs.Written.{name_in}
use Rattle.wb_eval_root.specs.Asked.{IsAskedOn, IsPrintedAs}
use Rattle.wb_eval_root.proofs.PrintedNames.{one_attribute}
use Rattle.wb_compose_texts.specs.Roots.{HasNoRootAttribute, IsAskedIn, attributes_in}
use Rattle.wb_compose_texts.specs.Unions.{Union}
use Rattle.wb_compose_texts.proofs.OneUnion.{asked_there}
use Rattle.wb_reading.specs.Attributions.{ExtendsAttribution}
use Rattle.wb_reading.proofs.PrintedLemmas.{asked_alike, flow_back}
use Rattle.wb_compose_texts.specs.SameRoots.{HasSameRoots, IsHostAttribute}
use Rattle.wb_compose_texts.proofs.ExtendsLemmas.{alone_with}
use Rattle.wb_compose_texts.proofs.UnionLemmas.{are_attribution, attributes_extend, host_attribution, host_is, numbers, start_stays}

-- what something is of an element that may be there
some_is : {X Y : Type 0} (f : X → Y) (o : Option X) (y : Y) → IsSomeAnd o (λ x. f x ≡ y) → option_map f o ≡ Some y
some_is f None y is = absurd is
some_is f (Some x) y is = ap Some is

is_some : {X Y : Type 0} (f : X → Y) (o : Option X) (y : Y) → option_map f o ≡ Some y → IsSomeAnd o (λ x. f x ≡ y)
is_some f None y is = absurd (cc is)
is_some f (Some x) y is = same_Some (f x) y is

module _ {s a : AttributionParts} {t : NumberMap} (is : IsAttribution s) (ok : IsAttribution a) (extends : ExtendsAttribution s a t)
    (alone : s.extensions ≡ []) where
  abbrev printed_in : AttributionParts → Attribute → List ℕ
  printed_in c x = printed_name c.extensions x.owner x.name

  named_there : (name : List ℕ) (y : ℕ) → IsPrintedAs s name y → IsPrintedAs a name (t.attribute y)
  named_there name y named =
      is_some (printed_in a) (slice_get a.attributes (t.attribute y)) name
      ((asked_alike is ok extends alone).named y ∙ some_is (printed_in s) (slice_get s.attributes y) name named)

  nothing_there : (m y : ℕ) → ((i : ℕ) → ¬ Needs s y m i) → (i : ℕ) → ¬ Needs a (t.attribute y) (t.nonterminal m) i
  nothing_there m y none i (needs, flow, has) =
      let (own, here, needs_is) = flow_back is ok extends y m needs flow in
      let (k, at) = place_of (map t.attribute own) i (subst (λ z. Contains z i) needs_is has) in
      let (j, there, i_is) = map_at t.attribute own k i at in
      none j (own, here, contains_at own j k there)

  -- an attribute that may be asked
  pub asked_in : (name : List ℕ) (m y : ℕ) → IsAskedOn s name m y → IsAskedOn a name (t.nonterminal m) (t.attribute y)
  asked_in name m y asked = record {
    named = named_there name y asked.named;
    occurs = ((asked_alike is ok extends alone).occurs Synthesized y m).0 asked.occurs;
    needs_nothing = nothing_there m y asked.needs_nothing;
  }

  -- an attribute of the host that may be asked there
  asked_back : (name : List ℕ) (m y : ℕ) → IsPrintedAs s name y → IsAskedOn a name (t.nonterminal m) (t.attribute y) → IsAskedOn s name m y
  asked_back name m y named asked = record {
    named = named;
    occurs = ((asked_alike is ok extends alone).occurs Synthesized y m).1 asked.occurs;
    needs_nothing = λ i needs. asked.needs_nothing (t.attribute i) (((asked_alike is ok extends alone).needs y m i).0 needs);
  }

module _ (host : ResolvedParts) (operations : List OperationSignature) (extensions : List ResolvedParts)
    (differ : Differ (map name_in extensions)) (all : Union host operations extensions) where
  abbrev pub a : AttributionParts
  a = attributes_in host operations extensions all

  abbrev pub alone : Union host operations []
  alone = alone_with host operations extensions all

  abbrev pub t : NumberMap
  t = numbers host operations extensions differ all

  -- what may be asked by the host alone
  pub root_in : (none : Union host operations []) (name : List ℕ) (y : ℕ) → IsAskedIn host operations [] none name y →
      IsAskedIn host operations extensions all name (t.attribute y)
  root_in none name y asked =
      subst (λ m. IsAskedOn a name m (t.attribute y)) (start_stays host operations extensions differ all)
      (asked_in (host_attribution host operations extensions differ all) (are_attribution host operations extensions differ all)
      (attributes_extend host operations extensions differ all) refl name all.grammar.start y
      (asked_there host operations [] alone none name y asked))

  -- what may be asked by the name of an attribute of the host is that attribute, and may be asked by the host alone
  pub root_back : (none : Union host operations []) (name : List ℕ) (y : ℕ) → IsPrintedAs host.attributes name y → (x : ℕ) →
      IsAskedIn host operations extensions all name x → (x ≡ t.attribute y) × IsAskedIn host operations [] none name y
  root_back none name y named x asked =
      let ok = are_attribution host operations extensions differ all in
      let is = host_attribution host operations extensions differ all in
      let extends = attributes_extend host operations extensions differ all in
      let here = subst (λ (b : AttributionParts). IsPrintedAs b name y) (host_is host operations extensions differ all) named in
      let same = one_attribute a ok name x (t.attribute y) asked.named (named_there is ok extends refl name y here) in
      let there = subst (λ m. IsAskedOn a name m (t.attribute y)) (sym (start_stays host operations extensions differ all))
      (subst (IsAskedOn a name all.grammar.start) same asked) in (
        same,
        asked_there host operations [] none alone name y (asked_back is ok extends refl name all.grammar.start y here there),
      )

  no_root : (name : List ℕ) → IsHostAttribute host name → HasNoRootAttribute host operations [] name → (x : ℕ) →
      ¬ IsAskedIn host operations extensions all name x
  no_root name (y, named) none x asked = none.none y (root_back none.whole name y named x asked).1

  pub same_roots : (name : List ℕ) → IsHostAttribute host name → HasSameRoots host operations extensions name
  same_roots name hosts = record {
    some = λ y root. (t.attribute y, record { whole = all; asked = root_in root.whole name y root.asked });
    none = λ none. record { whole = all; none = no_root name hosts none };
  }
