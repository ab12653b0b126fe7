-- What a search for missing equations adds is what the rule says.
use Rattle.std.proofs.Common.{◌≡◌, ◌∙◌, ℕ, List, None, Some, refl, sym, ap, subst, is_some, false, Contains, slice_get, length, ◌<◌}
use Rattle.std.specs.Prelude.{◌↔◌}
use Rattle.std.proofs.lemmas.Option.{slice_get_within}
use Rattle.wb_lemmas.proofs.Places.{at_once}
use Rattle.wb_complete.specs.Refusals.{LacksTop}
use Rattle.wb_flow.proofs.AddingLemmas.{adds_as, adds_none}
use Rattle.wb_flow.proofs.ArrowLemmas.{defined_rule, top_rule}
use Rattle.wb_flow.proofs.RowLemmas.{OnNonterminal}
use Rattle.wb_flow.specs.Inner.Adding.{SomeBelow}
use Rattle.wb_flow.specs.Adding.{Adds}
use Rattle.wb_flow.specs.Rules.{IsDefined}
use Rattle.wb_flow.specs.declared.vertex.Vertex.{Vertex}
use Rattle.wb_flow.specs.declared.vertex.Vertex.TheVariants as v
use Rattle.wb_flow_theory.specs.Modular.{IsProduction}
use Rattle.wb_flow_theory.specs.Occurrences.{Goes}
use Rattle.wb_flow_theory.specs.Rules.{Forwards, HasRule}
use Rattle.wb_flow_theory.specs.Vertices as w
use Rattle.wb_syntax_resolved.specs.declared.attributes.Direction.TheVariants.{Synthesized}
use Rattle.wb_syntax_resolved.specs.declared.attributes.Occurrence.{Occurrence}
use Rattle.wb_syntax_resolved.specs.declared.attribution.AttributionParts.{AttributionParts}
use Rattle.wb_syntax_resolved.specs.declared.production.Production.{Production}
use Rattle.wb_explain_flows_lists.specs.declared.missing.Missing.{Missing}
use Rattle.wb_explain_flows_lists.specs.Inner.Found.{IsMissingFor, IsMissingOf}
use Rattle.wb_explain_flows_lists.specs.Missing.{IsMissing}

abbrev pub missing : ℕ → ℕ → Missing
missing number attribute = record { production = number; attribute = attribute }

same_missing : (m : Missing) (number attribute : ℕ) → m.production ≡ number → m.attribute ≡ attribute → m ≡ missing number attribute
same_missing m number attribute left right = ap (λ z. missing z m.attribute) left ∙ ap (missing number) right

-- one that is there, and none where it isn't synthesized or has an equation
pub adds_missing : (a : AttributionParts) (defined : List Vertex) (xs ys : List Missing) (one : Missing) → Goes a Synthesized one.attribute
    → ¬ Contains defined (v.Top one.attribute) → Adds xs ys (λ m. m ≡ one) → Adds xs ys (IsMissingFor a defined one)
adds_missing a defined xs ys one goes none adds =
    adds_as xs ys (λ m. m ≡ one) (IsMissingFor a defined one) (λ m. ((λ same. (same, goes, none)), (λ is. is.0))) adds

module _ (a : AttributionParts) (number : ℕ) (p : Production) where
  -- a production that forwards lacks nothing
  pub forwards_lacks : (xs : List Missing) → Forwards p → Adds xs xs (IsMissingOf a number p)
  forwards_lacks xs forwards = adds_none xs (IsMissingOf a number p) (λ m is. is.1.no_forward forwards)

  module _ (defined : List Vertex) (are : (u : Vertex) → Contains defined u ↔ IsDefined p u) (none : p.forward ≡ None) where
    no_forward : ¬ Forwards p
    no_forward forwards = let bad : is_some p.forward ≡ false = ap is_some none in cc

    lacks : (o : Occurrence) → Contains a.occurrences o → o.nonterminal ≡ p.left → Goes a Synthesized o.attribute
        → ¬ Contains defined (v.Top o.attribute) → LacksTop a p o.attribute
    lacks o listed on goes absent = record {
      occurs = record {
        goes = goes;
        on = (o.needs, record { occurrence = o; listed = listed; of_attribute = refl; on_nonterminal = on; needs_are = refl });
      };
      lacks = λ rule. absent ((are (v.Top o.attribute)).1 (top_rule p o.attribute rule));
      no_forward = no_forward;
    }

    -- the attributes on its left side that are synthesized and have no equation are those that it lacks
    pub missing_of : (m : Missing)
        → OnNonterminal a.occurrences p.left (λ (o : Occurrence). IsMissingFor a defined (missing number o.attribute)) m
        ↔ IsMissingOf a number p m
    missing_of m = (
      (λ (o, listed, on, (same, goes, absent)).
          subst (IsMissingOf a number p) (sym same) (refl, lacks o listed on goes absent)),
      (λ (at, is).
          let flow = is.occurs.on.1 in
          let o = flow.occurrence in (
            o,
            flow.listed,
            flow.on_nonterminal,
            (
              same_missing m number o.attribute at (sym flow.of_attribute),
              subst (Goes a Synthesized) (sym flow.of_attribute) is.occurs.goes,
              (λ has. is.lacks (subst (λ z. HasTop z) flow.of_attribute
                  (defined_rule p (v.Top o.attribute) ((are (v.Top o.attribute)).0 has)))),
            ),
          )),
    ) where
      HasTop : ℕ → Type 0
      HasTop z = HasRule p (w.top_synthesized z)

-- what a production lacks is missing, and what is missing a production lacks
pub missing_all : (a : AttributionParts) (xs ys : List Missing) (n : ℕ) (productions : List Production) → productions ≡ a.productions
    → n ≡ length productions
    → Adds xs ys (SomeBelow n (λ k m. (p : Production) × IsProduction a k p × IsMissingOf a k p m)) → Adds xs ys (IsMissing a)
missing_all a xs ys n productions same ended adds =
    adds_as xs ys (SomeBelow n (λ k m. (p : Production) × IsProduction a k p × IsMissingOf a k p m)) (IsMissing a) (λ m. (
      (λ (k, lt, (p, there, (at, lacks))). (p, subst (λ z. slice_get a.productions z ≡ Some p) (sym at) there, lacks)),
      (λ (p, there, lacks). (
        m.production,
        subst (λ z. m.production < z) (sym (ended ∙ ap length same)) (slice_get_within a.productions m.production p there),
        (p, there, (refl, lacks)),
      )),
    )) adds

-- of the production of a number it holds
pub of_production : (a : AttributionParts) (xs ys : List Missing) (k : ℕ) (p : Production) → IsProduction a k p
    → Adds xs ys (IsMissingOf a k p) → Adds xs ys (λ m. (q : Production) × IsProduction a k q × IsMissingOf a k q m)
of_production a xs ys k p there adds =
    adds_as xs ys (IsMissingOf a k p) (λ m. (q : Production) × IsProduction a k q × IsMissingOf a k q m) (λ m. (
      (λ is. (p, there, is)),
      (λ (q, at, is). subst (λ z. IsMissingOf a k z m) (at_once a.productions k q p at there) is),
    )) adds
