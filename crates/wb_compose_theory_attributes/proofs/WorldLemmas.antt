-- What is written and what is one step down in an attribution, and in its world.
use Rattle.std.proofs.Common.{◌≡◌, ◌∙◌, ◌≤◌, ℕ, zero, suc, List, Option, Some, None, Contains, slice_get, refl, sym, ap}
use Rattle.std.proofs.Common.{inl, inr, arith}
use Rattle.wb_flow_theory.specs.Rules.{IsBelow, target_vertex}
use Rattle.wb_flow_theory.specs.Vertices.{local, forward, Step, child, made, Vertex, tree_of}
use Rattle.wb_syntax_resolved.specs.declared.attribution.AttributionParts.{AttributionParts}
use Rattle.wb_syntax_resolved.specs.declared.equation.Equation.{Equation}
use Rattle.wb_syntax_resolved.specs.declared.equation.Place.TheVariants as place
use Rattle.wb_syntax_resolved.specs.declared.production.Production.{Production}
use Rattle.wb_syntax_resolved.specs.Attribution.{IsAttribution}
use Rattle.wb_syntax_resolved.specs.Expression.{Node}
use Rattle.wb_syntax_resolved.specs.Owners as numbers
use Rattle.wb_syntax_resolved.specs.Visible.{kind_at}
use Rattle.wb_compose_theory_worlds.specs.Attributions.{tree_in, kind_in, maker_in, equation_at, local_rule, forward_rule, rule_at}
use Rattle.wb_compose_theory_worlds.specs.Attributions.{world_of}
use Rattle.wb_compose_theory_worlds.specs.Worlds.{owner_of, World, part_of, Has, forwarded, below}
use Rattle.wb_compose_theory_worlds.proofs.AttributionLemmas.{left_is, some_equation, one_equation, rule_at_target, written_to}
use Rattle.wb_compose_theory_worlds.proofs.AttributionLemmas.{forwarding_to}
use Rattle.wb_compose_theory_worlds.proofs.AttributionLemmas.{forwarding_from}
use Rattle.wb_compose_theory_worlds.proofs.FoundLemmas.{tree_from}
use Rattle.wb_compose_theory_worlds.proofs.NamedLemmas.{IsRuleOf, of_equation, of_local, of_forward}
use Rattle.wb_compose_theory_worlds.proofs.StayLemmas.{forward_below}
use Rattle.wb_compose_theory_attributes.proofs.ViewLemmas.{number_alone}

-- whom an owner's part has, the owner sees
pub sees_from : (k owner : ℕ) → Has (part_of (owner_of k)) (owner_of owner) → numbers.Sees k owner
sees_from k zero has = inl refl
sees_from zero (suc owner) has = absurd has
sees_from (suc k) (suc owner) has = inr (ap suc has)

-- the part of an owner in the attribution of its own has all owners there
pub has_alone : (k bound owner : ℕ) → bound ≡ number_alone k → owner ≤ bound → Has (part_of (owner_of (number_alone k))) (owner_of owner)
has_alone k bound zero is le = tt
has_alone zero bound (suc owner) is le = absurd (omega (arith, is, le))
has_alone (suc k) bound (suc owner) is le = omega (arith, is, le)

-- a production that a part has is there
pub there_alone : (k bound : ℕ) → bound ≡ number_alone k → (r : Option Production)
    → Has (part_of (owner_of (number_alone k))) (maker_in bound r) → (production : Production) × (r ≡ Some production)
there_alone zero bound is None has = absurd has
there_alone (suc k) bound is None has = absurd (omega (arith, is, has))
there_alone k bound is (Some production) has = (production, refl)

pub there_in : (k bound : ℕ) → k ≤ bound → (r : Option Production) → Has (part_of (owner_of k)) (maker_in bound r)
    → (production : Production) × (r ≡ Some production)
there_in zero bound le None has = absurd has
there_in (suc k) bound le None has = absurd (omega (arith, le, has))
there_in k bound le (Some production) has = (production, refl)

module _ (a : AttributionParts) (is : IsAttribution a) (start : ℕ) where
  abbrev w : World
  w = world_of a start

  module _ (p : ℕ) (production : Production) (at : slice_get a.productions p ≡ Some production) where
    -- the world's writer writes a rule
    pub writes_of : (v : Vertex) (owner : ℕ) (nodes : List Node) → IsRuleOf production v owner nodes
        → w.writes (owner_of owner) p v ≡ Some nodes
    writes_of v owner nodes (of_equation e has target same known) =
        let each : (g : Equation) → Contains production.equations g → v ≡ target_vertex g.target → (g.owner, g.nodes) ≡ (e.owner, e.nodes)
        = λ g there also. ap (λ (z : Equation). (z.owner, z.nodes)) (one_equation a is start p production at g e there has (sym also
        ∙ target)) in
        let found = some_equation a is start p production at v e (e.owner, e.nodes) production.equations has target each in
        let rule = ap (rule_at production) target ∙ (rule_at_target a is start p production at e
        ∙ (ap (λ z. equation_at z production.equations) (sym target) ∙ found)) in
        ap (λ z. w.writes (owner_of z) p v) same ∙ (written_to a is start p production at v e.owner e.nodes rule ∙ ap Some (sym known))
    writes_of v owner nodes (of_local x l has target same known) =
        let rule = ap (rule_at production) target ∙ ap local_rule has in
        ap (λ z. w.writes (owner_of z) p v) same ∙ (written_to a is start p production at v l.owner l.nodes rule ∙ ap Some (sym known))
    writes_of v owner nodes (of_forward f has target same known) =
        let rule = ap (rule_at production) target ∙ ap (forward_rule production.owner) has in
        ap (λ z. w.writes (owner_of z) p v) same ∙ (written_to a is start p production at v production.owner f.nodes rule ∙ ap Some
        (sym known))

    forwarded_in : (left m : ℕ) (nodes : Option (List Node)) → forwarded left nodes ≡ Some m
        → (left ≡ m) × ((e : List Node) × (nodes ≡ Some e))
    forwarded_in left m None there = absurd (cc there)
    forwarded_in left m (Some e) there = let equal : left ≡ m = cc there in (equal, (e, refl))

    -- the tree one step down is the same in both
    pub below_to : (s : Step) (m : ℕ) → IsBelow production s m → below w p s ≡ Some m
    below_to (child k) m there = ap (λ z. tree_in (kind_in (place.Child k) z)) at ∙ ap tree_in there
    below_to (made (local x)) m there = ap (λ z. tree_in (kind_in (place.Local x) z)) at ∙ ap tree_in there
    below_to (made forward) m (forwards, left) =
        forward_below w p (forwarding_to a is start p production at forwards)
        ∙ ap Some (left_is a is start p production at ∙ left)

    pub below_from : (s : Step) (m : ℕ) → below w p s ≡ Some m → IsBelow production s m
    below_from (child k) m there =
        tree_from m (kind_at production (place.Child k)) (sym (ap (λ z. tree_in (kind_in (place.Child k) z)) at) ∙ there)
    below_from (made (local x)) m there =
        tree_from m (kind_at production (place.Local x)) (sym (ap (λ z. tree_in (kind_in (place.Local x) z)) at) ∙ there)
    below_from (made forward) m there =
        let (left, forwards) = forwarded_in (w.left p) m (w.writes (w.production_owner p) p (tree_of forward)) there in
        (forwarding_from a is start p production at forwards, sym (left_is a is start p production at) ∙ left)
