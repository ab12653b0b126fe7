-- The attributes of a certified host with certified extensions are an attribution, well defined and of their kinds.
use Rattle.std.proofs.Common.{◌≡◌, ◌∙◌, ◌⊎◌, ℕ, List, Some, None, map, option_map, sym, ap, subst, inl, inr}
use Rattle.std.specs.Prelude.{All, Contains}
use Rattle.std.proofs.lemmas.List.Elements.{All-map}
use Rattle.std.proofs.lemmas.Option.{same_Some}
use Rattle.wb_flow_theory.proofs.OccurrenceLemmas.{occurs_seen}
use Rattle.wb_flow_theory.specs.Modular.{AreWellDefinedAttributes, InheritsNothing, IsHosts}
use Rattle.wb_flow_theory.specs.Occurrences.{Occurs}
use Rattle.wb_base.specs.Different.{Differ}
use Rattle.wb_base.specs.Grammar.{GrammarView}
use Rattle.wb_compose.proofs.UnionLemmas.{union_is}
use Rattle.wb_compose.specs.Attributes.{attributes_of}
use Rattle.wb_compose.specs.AttributeLaws.{AreComposable, AreUnitedAttributes, NeedsNothing, all_rooted, host_rooted, with_host}
use Rattle.wb_certify.specs.Kept.{AreCertifiedBoth}
use Rattle.wb_compose.specs.Joined.{AreCertifiedApart, Extended}
use Rattle.wb_compose.specs.Written.{name_in}
use Rattle.wb_certify.proofs.InRange.{with_some}
use Rattle.wb_lemmas.proofs.Elements.{all_contained, all_weaker}
use Rattle.wb_operations.specs.Operations.{OperationSignature, IsPlainSignature}
use Rattle.wb_syntax_resolved.specs.Attribution.{IsAttribution}
use Rattle.wb_syntax_resolved.specs.declared.attributes.Direction.TheVariants.{Inherited}
use Rattle.wb_syntax_resolved.specs.declared.attributes.Nonterminal.{Nonterminal}
use Rattle.wb_syntax_resolved.specs.declared.attribution.AttributionParts.{AttributionParts}
use Rattle.wb_syntax_resolved.specs.declared.resolved.ResolvedParts.{ResolvedParts}
use Rattle.wb_syntax_resolved.specs.Named.{IsNamedOccurrence}
use Rattle.wb_syntax_resolved.specs.Visible.{SeesNonterminal, SeesOccurrence}
use Rattle.wb_types.specs.Rules.{KindsOk}
use Rattle.wb_compose_theory_attributes.proofs.UnitedKindLemmas.{united_kinds}
use Rattle.wb_compose_theory_attributes.proofs.UnitedLemmas.{united_attributes, united_attribution}
use Rattle.wb_compose_theory_attributes.specs.Laws.{IsUnitedAttribution}
use Rattle.wb_compose_theory_attributes.specs.Tested.{AreAttributions, AreWellDefinedEach, HaveKindsEach}
use Rattle.wb_compose_theory_attributes.specs.Unions.{Rooted}

-- what the host sees is its own
hosts_own : (a : AttributionParts) (m : ℕ) → SeesNonterminal a 0 m → IsHosts a m
hosts_own a m seen = ap (option_map (λ (r : Nonterminal). r.owner)) seen.is ∙ ap Some (zero seen.seen) where
  zero : (seen.nonterminal.owner ≡ 0) ⊎ (seen.nonterminal.owner ≡ 0) → seen.nonterminal.owner ≡ 0
  zero (inl is) = is
  zero (inr is) = is

-- where nothing inherited occurs, no flow type has anything
needs_nothing : (a : AttributionParts) (m : ℕ) → IsAttribution a → InheritsNothing a m → NeedsNothing a m
needs_nothing a m is none attribute i (needs, flow, has) =
    let named = all_contained (IsNamedOccurrence a) a.occurrences flow.occurrence is.named.occurrences flow.listed in
    let there = subst (λ z. Contains z i) (sym flow.needs_are) has in
    let seen = all_contained (λ k. SeesOccurrence a flow.occurrence.owner Inherited k flow.occurrence.nonterminal) flow.occurrence.needs i
    named.needs there in
    none i (subst (λ z. Occurs a Inherited i z) flow.on_nonterminal
    (occurs_seen a flow.occurrence.owner Inherited i flow.occurrence.nonterminal seen))

module _ (host : ResolvedParts) (h : GrammarView) (operations : List OperationSignature) (extended : List Extended)
    (certified : AreCertifiedApart host h operations extended) (names : Differ (map (λ (e : Extended). name_in e.resolved) extended)) where
  abbrev IsOne : Extended → Type 0
  IsOne e = AreCertifiedBoth host e.resolved h e.grammar operations

  -- what holds of each holds of all
  each_rooted : (P : Rooted → Type 0) → ((e : Extended) → IsOne e → P (with_host e)) → All P (map with_host extended)
  each_rooted P gives = All-map P with_host extended (all_weaker IsOne (λ e. P (with_host e)) extended gives certified.each)

  are_attributions : AreAttributions (host_rooted host h) (map with_host extended)
  are_attributions = record {
    of_host = certified.host_resolved.attributes;
    alone = certified.host_certified.alone;
    start = hosts_own host.attributes h.start (with_some host.grammar (λ (g : GrammarView). SeesNonterminal host.attributes 0 g.start)
        certified.host_resolved.start h certified.host_start);
    of_extensions = each_rooted (λ (e : Rooted). IsAttribution e.attributes) (λ e both. both.resolved.attributes);
  }

  are_well_defined : AreWellDefinedEach (host_rooted host h) (map with_host extended)
  are_well_defined = record {
    of_host = subst (λ (g : GrammarView). AreWellDefinedAttributes host.attributes (Some g.start) None)
        (same_Some certified.host_certified.grammar h
        (sym certified.host_certified.start ∙ certified.host_start))
        certified.host_certified.attributes;
    of_extensions = each_rooted (λ (e : Rooted). AreWellDefinedAttributes e.attributes (Some e.start) (Some 1)) (λ e both.
        subst (λ (g : GrammarView). AreWellDefinedAttributes e.resolved.attributes (Some g.start) (Some 1))
        (same_Some both.certified.grammar e.grammar (sym both.certified.start ∙ both.start)) both.certified.attributes);
  }

  pub is_attribution : IsUnitedAttribution (all_rooted host h extended)
  is_attribution =
      united_attribution (host_rooted host h) (map with_host extended) (all_rooted host h extended)
      (union_is host h operations extended certified names) are_attributions

  well_defined : AreWellDefinedAttributes (attributes_of host h extended) (Some h.start) None
  well_defined =
      united_attributes (host_rooted host h) (map with_host extended) (all_rooted host h extended)
      (union_is host h operations extended certified names) are_attributions are_well_defined

  have_kinds : HaveKindsEach (host_rooted host h) (map with_host extended) operations
  have_kinds = record {
    of_host = certified.host_certified.kinds;
    of_extensions = each_rooted (λ (e : Rooted). KindsOk e.attributes operations) (λ e both. both.certified.kinds);
  }

  united_over : All IsPlainSignature operations → AreUnitedAttributes host h operations extended
  united_over plain = record {
    is_union = union_is host h operations extended certified names;
    attribution = is_attribution.attributes;
    start = is_attribution.start;
    start_needs_nothing = needs_nothing (attributes_of host h extended) h.start is_attribution.attributes well_defined.start_inherits;
    well_defined = well_defined;
    kinds = united_kinds (host_rooted host h) (map with_host extended) (all_rooted host h extended)
        (union_is host h operations extended certified names) are_attributions operations plain have_kinds;
  }

pub are_united : (host : ResolvedParts) (h : GrammarView) (operations : List OperationSignature) (extended : List Extended)
    → AreComposable host h operations extended → AreUnitedAttributes host h operations extended
are_united host h operations extended composable =
    united_over host h operations extended composable.certified composable.names composable.plain
