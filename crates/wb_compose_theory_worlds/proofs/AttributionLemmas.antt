-- A production of an attribution is well defined exactly if it is in the union of its world.
use Rattle.std.proofs.Common.{◌≡◌, ◌≤◌, ◌∙◌, ◌&&◌, ◌∷◌, [], ℕ, List, Option, Some, None, Bool, true, false, Contains}
use Rattle.std.proofs.Common.{refl, sym, subst, ap, inl, inr, arith, length, slice_get, option_map, map}
use Rattle.std.specs.Prelude.{IsSome}
use Rattle.std.proofs.lemmas.Option.{slice_get-map, same_Some}
use Rattle.wb_lemmas.proofs.Elements.{all_contained}
use Rattle.wb_lemmas.proofs.Members.{contains_at, contains_first, contains_later, contains_cases, nothing_in, place_of}
use Rattle.wb_lemmas.proofs.Places.{at_once}
use Rattle.wb_flow_theory.proofs.RuleLemmas.{one_target, no_tree}
use Rattle.wb_flow_theory.specs.Flow as flow
use Rattle.wb_flow_theory.specs.Flow.{HasFlowEdge, Leads, one, more}
use Rattle.wb_flow_theory.specs.Modular.{EachProduction, AreWellDefinedAttributes}
use Rattle.wb_flow_theory.specs.Occurrences.{IsOn, Occurs, Needs, ForwardNeeds}
use Rattle.wb_flow_theory.specs.Rules as rules
use Rattle.wb_flow_theory.specs.Rules.{Forwards, IsBelow, IsRule, HasRule, Reads, target_vertex}
use Rattle.wb_flow_theory.specs.Vertices.{local, forward, Step, child, made, Vertex, top_synthesized, top_inherited, synthesized}
use Rattle.wb_flow_theory.specs.Vertices.{inherited, tree_of}
use Rattle.wb_flow_theory.specs.WellDefined.{IsWellDefinedProduction}
use Rattle.wb_eval_theory.proofs.RuleLemmas.{both, vertex_equal, vertex_again}
use Rattle.wb_eval_theory.specs.Rules.{same_vertex}
use Rattle.wb_syntax_resolved.specs.declared.attributes.Direction.{Direction}
use Rattle.wb_syntax_resolved.specs.declared.attributes.Direction.TheVariants.{Synthesized, Inherited}
use Rattle.wb_syntax_resolved.specs.declared.attributes.Nonterminal.{Nonterminal}
use Rattle.wb_syntax_resolved.specs.declared.attributes.Occurrence.{Occurrence}
use Rattle.wb_syntax_resolved.specs.declared.attribution.AttributionParts.{AttributionParts}
use Rattle.wb_syntax_resolved.specs.declared.equation.Equation.{Equation}
use Rattle.wb_syntax_resolved.specs.declared.equation.Place.TheVariants as place
use Rattle.wb_syntax_resolved.specs.declared.equation.Target.{Target}
use Rattle.wb_syntax_resolved.specs.declared.equation.Target.TheVariants as target
use Rattle.wb_syntax_resolved.specs.declared.production.Forward.{Forward}
use Rattle.wb_syntax_resolved.specs.declared.production.Local.{Local}
use Rattle.wb_syntax_resolved.specs.declared.production.Production.{Production}
use Rattle.wb_syntax_resolved.specs.Attribution.{IsAttribution}
use Rattle.wb_syntax_resolved.specs.Expression.{Node}
use Rattle.wb_syntax_resolved.specs.Named.{IsNamedOccurrence, IsNamedProduction, IsNamedLocal, IsNamedEquation}
use Rattle.wb_syntax_resolved.specs.Once.{IsOnceIn}
use Rattle.wb_syntax_resolved.specs.Visible.{kind_at, owner_of_local, place_owner}
use Rattle.wb_compose_theory_worlds.specs.Attributions.{same_owner, goes_so, occurrence_at, declared_by, needs_of}
use Rattle.wb_compose_theory_worlds.specs.Attributions.{forward_needs_of, maker_in, left_in, kind_in, tree_in, place_owner_in}
use Rattle.wb_compose_theory_worlds.specs.Attributions.{Written, equation_at, local_rule, forward_rule, rule_at, rule_in, written_by}
use Rattle.wb_compose_theory_worlds.specs.Attributions.{world_of, IsUnion}
use Rattle.wb_compose_theory_worlds.specs.Attributions.{AreUnion}
use Rattle.wb_compose_theory_worlds.specs.Worlds.{Owner, owner_of, World, Part, union, Has, forwarded, IsForwarding, IsBelowIn}
use Rattle.wb_compose_theory_worlds.specs.Worlds.{OccursIn, IsRuleIn, HasRuleIn}
use Rattle.wb_compose_theory_worlds.specs.Parts.{HasEdgeIn, by_rule, by_flow_type, by_tree, by_copy_up, by_copy_down, IsWellDefinedIn}
use Rattle.wb_compose_theory_worlds.specs.Parts.{IsWellDefinedPart}
use Rattle.wb_compose_theory_worlds.proofs.StayLemmas.{forward_below}
use Rattle.wb_compose_theory_worlds.proofs.FoundLemmas.{has_owner, owner_again, goes_to, goes_from, IsFor, found_occurrence}
use Rattle.wb_compose_theory_worlds.proofs.FoundLemmas.{some_occurrence}
use Rattle.wb_compose_theory_worlds.proofs.FoundLemmas.{tree_from, leads_map}

module _ (a : AttributionParts) (is : IsAttribution a) (start : ℕ) where
  abbrev pub w : World
  w = world_of a start

  abbrev pub part : Part
  part = union (length a.extensions)

  pub only_occurrence : (m x : ℕ) (r s : Occurrence) → Contains a.occurrences r → IsFor m x r → Contains a.occurrences s → IsFor m x s → s ≡ r
  only_occurrence m x r s has for listed also =
      let (i, at) = place_of a.occurrences s listed in
      let (j, there) = place_of a.occurrences r has in
      let equal = is.once.occurrences i j s r at there (sym also.1 ∙ for.1) (sym also.0 ∙ for.0) in
      at_once a.occurrences j s r (subst (λ k. slice_get a.occurrences k ≡ Some s) equal at) there

  pub occurrence_found : (m x : ℕ) (r : Occurrence) → Contains a.occurrences r → IsFor m x r → occurrence_at m x a.occurrences ≡ Some r
  occurrence_found m x r has for =
      some_occurrence m x r a.occurrences has for (λ s listed also. only_occurrence m x r s has for listed also)

  pub occurs_to : (d : Direction) (m x : ℕ) → Occurs a d x m → OccursIn w part d m x
  occurs_to d m x occurs =
      let (needs, flow_type) = occurs.on in
      let r = flow_type.occurrence in
      let found = occurrence_found m x r flow_type.listed (sym flow_type.on_nonterminal, sym flow_type.of_attribute) in
      let named = all_contained (IsNamedOccurrence a) a.occurrences r is.named.occurrences flow_type.listed in
      let goes = goes_to d (slice_get a.attributes x) occurs.goes in
      let declared = ap (declared_by (owner_of r.owner)) found ∙ owner_again (owner_of r.owner) in (
        owner_of r.owner,
        has_owner (length a.extensions) r.owner named.owner,
        ap (λ b. b && declared_by (owner_of r.owner) (occurrence_at m x a.occurrences)) goes ∙ declared,
      )

  is_on : (o : Owner) (m x : ℕ) (r : Option Occurrence) → occurrence_at m x a.occurrences ≡ r → declared_by o r ≡ true → IsOn a x m
  is_on o m x None at declared = absurd (cc declared)
  is_on o m x (Some r) at declared =
      let (listed, for) = found_occurrence m x r a.occurrences at in
      (r.needs, record { occurrence = r; listed = listed; of_attribute = sym for.1; on_nonterminal = sym for.0; needs_are = refl })

  occurs_from : (d : Direction) (m x : ℕ) → OccursIn w part d m x → Occurs a d x m
  occurs_from d m x (o, has, declares) =
      let (goes, declared) = both (goes_so d (slice_get a.attributes x)) (declared_by o (occurrence_at m x a.occurrences)) declares in
      record { goes = goes_from d (slice_get a.attributes x) goes; on = is_on o m x (occurrence_at m x a.occurrences) refl declared }

  needs_to : (m x i : ℕ) → Needs a x m i → Contains (w.needs m x) i
  needs_to m x i (needs, flow_type, has) =
      let r = flow_type.occurrence in
      let found = occurrence_found m x r flow_type.listed (sym flow_type.on_nonterminal, sym flow_type.of_attribute) in
      subst (λ z. Contains z i) (sym (ap needs_of found ∙ flow_type.needs_are)) has

  needs_in : (m x i : ℕ) (r : Option Occurrence) → occurrence_at m x a.occurrences ≡ r → Contains (needs_of r) i → Needs a x m i
  needs_in m x i None at has = absurd (nothing_in i has)
  needs_in m x i (Some r) at has =
      let (listed, for) = found_occurrence m x r a.occurrences at in
      (r.needs, record { occurrence = r; listed = listed; of_attribute = sym for.1; on_nonterminal = sym for.0; needs_are = refl }, has)

  pub needs_from : (m x i : ℕ) → Contains (w.needs m x) i → Needs a x m i
  needs_from m x i has = needs_in m x i (occurrence_at m x a.occurrences) refl has

  pub forward_needs_to : (m i : ℕ) → ForwardNeeds a m i → Contains (w.forward_needs m) i
  forward_needs_to m i (r, at, has) = subst (λ z. Contains z i) (sym (ap forward_needs_of at)) has

  forward_needs_in : (m i : ℕ) (r : Option Nonterminal) → slice_get a.nonterminals m ≡ r → Contains (forward_needs_of r) i
      → ForwardNeeds a m i
  forward_needs_in m i None at has = absurd (nothing_in i has)
  forward_needs_in m i (Some r) at has = (r, at, has)

  pub forward_needs_from : (m i : ℕ) → Contains (w.forward_needs m) i → ForwardNeeds a m i
  forward_needs_from m i has = forward_needs_in m i (slice_get a.nonterminals m) refl has

  module _ (p : ℕ) (production : Production) (at : slice_get a.productions p ≡ Some production) where
    pub listed : Contains a.productions production
    listed = contains_at a.productions production p at

    pub named : IsNamedProduction a production
    named = all_contained (IsNamedProduction a) a.productions production is.named.productions listed

    once : IsOnceIn production
    once = all_contained IsOnceIn a.productions production is.once.productions listed

    pub left_is : w.left p ≡ production.left
    left_is = ap (left_in start) at

    pub owner_is : w.production_owner p ≡ owner_of production.owner
    owner_is = ap (maker_in (length a.extensions)) at

    has_production : Has part (w.production_owner p)
    has_production = subst (Has part) (sym owner_is) (has_owner (length a.extensions) production.owner named.owner)

    local_listed : (x : ℕ) (l : Local) → slice_get production.locals x ≡ Some l → l.owner ≤ length a.extensions
    local_listed x l there =
        (all_contained (IsNamedLocal a production) production.locals l named.locals (contains_at production.locals l x there)).owner

    local_owner_listed : (x : ℕ) (l : Option Local) → slice_get production.locals x ≡ l → owner_of_local production l ≤ length a.extensions
    local_owner_listed x None there = named.owner
    local_owner_listed x (Some l) there = local_listed x l there

    has_local : (x : ℕ) → Has part (w.local_owner p x)
    has_local x =
        let owner : w.local_owner p x ≡ owner_of (place_owner production (place.Local x)) = ap (place_owner_in (place.Local x)) at in
        subst (Has part) (sym owner)
        (has_owner (length a.extensions) (place_owner production (place.Local x)) (local_owner_listed x (slice_get production.locals x) refl))

    -- what the production writes
    pub written_is : (o : Owner) (v : Vertex) → w.writes o p v ≡ written_by o (rule_at production v)
    written_is o v = ap (λ z. written_by o (rule_in v z)) at

    abbrev from_written : Owner → ℕ × List Node → Bool → Option (List Node)
    from_written o r same = elim same [ true ↦ Some r.1 | false ↦ None ]

    pub written_to : (v : Vertex) (owner : ℕ) (nodes : List Node) → rule_at production v ≡ Some (owner, nodes)
        → w.writes (owner_of owner) p v ≡ Some nodes
    written_to v owner nodes rule =
        written_is (owner_of owner) v ∙ ap (written_by (owner_of owner)) rule ∙ ap (from_written (owner_of owner) (owner, nodes)) (owner_again (owner_of owner))

    some_written : (o : Owner) (nodes : List Node) (r : Written) (same : Bool) → from_written o r same ≡ Some nodes → r.1 ≡ nodes
    some_written o nodes r true found = same_Some r.1 nodes found
    some_written o nodes r false found = absurd (cc found)

    -- the equation that is found for a vertex
    abbrev pub IsEquationFor : Vertex → Written → List Equation → Type 0
    IsEquationFor v r equations = (e : Equation) × Contains equations e × (v ≡ target_vertex e.target) × (r ≡ (e.owner, e.nodes))

    abbrev from_equation : Vertex → Equation → List Equation → Bool → Option Written
    from_equation v e rest same = elim same [ true ↦ Some (e.owner, e.nodes) | false ↦ equation_at v rest ]

    pub found_equation : (v : Vertex) (r : Written) (equations : List Equation) → equation_at v equations ≡ Some r
        → IsEquationFor v r equations
    found_equation v r [] found = absurd (cc found)
    found_equation v r (e ∷ rest) found = cases (same_vertex v (target_vertex e.target)) refl found (found_equation v r rest) where
      cases : (same : Bool) → same_vertex v (target_vertex e.target) ≡ same → from_equation v e rest same ≡ Some r
          → (equation_at v rest ≡ Some r → IsEquationFor v r rest) → IsEquationFor v r (e ∷ rest)
      cases true same here later =
          (e, contains_first e rest, vertex_equal v (target_vertex e.target) same, sym (same_Some (e.owner, e.nodes) r here))
      cases false same here later = let (f, has, target, written) = later here in (f, contains_later e f rest has, target, written)

    pub some_equation : (v : Vertex) (f : Equation) (r : Written) (equations : List Equation) → Contains equations f
        → v ≡ target_vertex f.target
        → ((g : Equation) → Contains equations g → v ≡ target_vertex g.target → (g.owner, g.nodes) ≡ r) → equation_at v equations ≡ Some r
    some_equation v f r [] has target each = absurd (nothing_in f has)
    some_equation v f r (g ∷ rest) has target each =
        cases (same_vertex v (target_vertex g.target)) refl (λ later. some_equation v f r rest later target (λ h there. each h (contains_later g h rest there))) where
          cases : (same : Bool) → same_vertex v (target_vertex g.target) ≡ same → (Contains rest f → equation_at v rest ≡ Some r)
              → equation_at v (g ∷ rest) ≡ Some r
          cases true same later =
              ap (from_equation v g rest) same ∙ ap Some (each g (contains_first g rest) (vertex_equal v (target_vertex g.target) same))
          cases false same later = elim (contains_cases g f rest has) [
            | inl first ↦
                let again = vertex_again v in
                let equal : target_vertex g.target ≡ v = ap (λ (z : Equation). target_vertex z.target) first ∙ sym target in
                absurd (cc (same, equal, again))
            | inr there ↦ ap (from_equation v g rest) same ∙ later there
          ]

    target_at : (e : Equation) (i : ℕ) → slice_get production.equations i ≡ Some e
        → slice_get (map (λ (z : Equation). z.target) production.equations) i ≡ Some e.target
    target_at e i there =
        slice_get-map (λ (z : Equation). z.target) production.equations i ∙ ap (option_map (λ (z : Equation). z.target)) there

    pub one_equation : (e f : Equation) → Contains production.equations e → Contains production.equations f
        → target_vertex e.target ≡ target_vertex f.target → e ≡ f
    one_equation e f he hf same =
        let (i, first) = place_of production.equations e he in
        let (j, second) = place_of production.equations f hf in
        let targets : e.target ≡ f.target = one_target e.target f.target same in
        let equal = once.targets e.target i j (target_at e i first) (target_at f j second ∙ ap Some (sym targets)) in
        at_once production.equations j e f (subst (λ k. slice_get production.equations k ≡ Some e) equal first) second

    -- a vertex that an equation defines is looked for among the equations
    pub rule_at_target : (e : Equation)
        → rule_at production (target_vertex e.target) ≡ equation_at (target_vertex e.target) production.equations
    rule_at_target e = go e.target where
      go : (t : Target) → rule_at production (target_vertex t) ≡ equation_at (target_vertex t) production.equations
      go (target.Top y) = refl
      go (target.Place s y) = refl
      go (target.Forward y) = refl

    rule_to : (v : Vertex) (nodes : List Node) → IsRule production v nodes → IsRuleIn w part p v nodes
    rule_to v nodes (rules.by_equation e has target known) =
        let each : (g : Equation) → Contains production.equations g → v ≡ target_vertex g.target → (g.owner, g.nodes) ≡ (e.owner, e.nodes)
        = λ g there also. ap (λ (z : Equation). (z.owner, z.nodes)) (one_equation g e there has (sym also ∙ target)) in
        let found = some_equation v e (e.owner, e.nodes) production.equations has target each in
        let rule = ap (rule_at production) target ∙ rule_at_target e ∙ ap (λ z. equation_at z production.equations) (sym target) ∙ found in
        let equation = all_contained (IsNamedEquation a production) production.equations e named.equations has in
        (owner_of e.owner, has_owner (length a.extensions) e.owner equation.owner, written_to v e.owner e.nodes rule ∙ ap Some (sym known))
    rule_to v nodes (rules.by_local x l there same known) =
        let rule = ap (rule_at production) same ∙ ap local_rule there in
        (owner_of l.owner, has_owner (length a.extensions) l.owner (local_listed x l there), written_to v l.owner l.nodes rule ∙ ap Some (sym known))
    rule_to v nodes (rules.by_forward f there same known) =
        let rule = ap (rule_at production) same ∙ ap (forward_rule production.owner) there in
        (owner_of production.owner, has_owner (length a.extensions) production.owner named.owner, written_to v production.owner f.nodes rule ∙ ap Some (sym known))

    by_local_in : (x : ℕ) (r : Written) (l : Option Local) → slice_get production.locals x ≡ l → local_rule l ≡ Some r
        → IsRule production (tree_of (local x)) r.1
    by_local_in x r None there found = absurd (cc found)
    by_local_in x r (Some l) there found = rules.by_local x l there refl (ap (λ z. z.1) (sym (same_Some (l.owner, l.nodes) r found)))

    by_forward_in : (r : Written) (f : Option Forward) → production.forward ≡ f → forward_rule production.owner f ≡ Some r
        → IsRule production (tree_of forward) r.1
    by_forward_in r None there found = absurd (cc found)
    by_forward_in r (Some f) there found =
        rules.by_forward f there refl (ap (λ z. z.1) (sym (same_Some (production.owner, f.nodes) r found)))

    by_equation_in : (v : Vertex) (r : Written) → equation_at v production.equations ≡ Some r → IsRule production v r.1
    by_equation_in v r found =
        let (e, has, target, written) = found_equation v r production.equations found in
        rules.by_equation e has target (ap (λ z. z.1) written)

    rule_found : (v : Vertex) (r : Written) → rule_at production v ≡ Some r → IsRule production v r.1
    rule_found (tree_of (local k)) r found = by_local_in k r (slice_get production.locals k) refl found
    rule_found (tree_of forward) r found = by_forward_in r production.forward refl found
    rule_found (top_synthesized y) r found = by_equation_in (top_synthesized y) r found
    rule_found (top_inherited y) r found = by_equation_in (top_inherited y) r found
    rule_found (synthesized s y) r found = by_equation_in (synthesized s y) r found
    rule_found (inherited s y) r found = by_equation_in (inherited s y) r found

    rule_in_written : (o : Owner) (v : Vertex) (nodes : List Node) (r : Option Written) → rule_at production v ≡ r
        → written_by o r ≡ Some nodes
        → IsRule production v nodes
    rule_in_written o v nodes None found writes = absurd (cc writes)
    rule_in_written o v nodes (Some r) found writes =
        subst (IsRule production v) (some_written o nodes r (same_owner o (owner_of r.0)) writes) (rule_found v r found)

    rule_from : (v : Vertex) (nodes : List Node) → IsRuleIn w part p v nodes → IsRule production v nodes
    rule_from v nodes (o, has, writes) = rule_in_written o v nodes (rule_at production v) refl (sym (written_is o v) ∙ writes)

    pub has_rule_to : (v : Vertex) → HasRule production v → HasRuleIn w part p v
    has_rule_to v (nodes, rule) = (nodes, rule_to v nodes rule)

    pub has_rule_from : (v : Vertex) → HasRuleIn w part p v → HasRule production v
    has_rule_from v (nodes, rule) = (nodes, rule_from v nodes rule)

    -- the forward
    forwarding_in : (f : Option Forward) → production.forward ≡ f → IsSome f → IsForwarding w p
    forwarding_in None there is' = absurd (cc is')
    forwarding_in (Some f) there is' =
        let written = written_to (tree_of forward) production.owner f.nodes (ap (forward_rule production.owner) there) in
        (f.nodes, ap (λ o. w.writes o p (tree_of forward)) owner_is ∙ written)

    pub forwarding_to : Forwards production → IsForwarding w p
    forwarding_to forwards = forwarding_in production.forward refl forwards

    pub forward_in : (nodes : List Node) (f : Option Forward) → production.forward ≡ f → IsRule production (tree_of forward) nodes
        → IsSome f
    forward_in nodes (Some f) there rule = refl
    forward_in nodes None there (rules.by_equation e has same known) = absurd (no_tree e.target forward (sym same))
    forward_in nodes None there (rules.by_local x l has same known) = absurd (cc same)
    forward_in nodes None there (rules.by_forward f has same known) = absurd (cc (there, has))

    pub forwarding_from : IsForwarding w p → Forwards production
    forwarding_from (nodes, writes) =
        forward_in nodes production.forward refl (rule_from (tree_of forward) nodes (w.production_owner p, has_production, writes))

    -- what is one step down
    below_to : (s : Step) (m : ℕ) → IsBelow production s m → IsBelowIn w part p s m
    below_to (child k) m there = (ap (λ z. tree_in (kind_in (place.Child k) z)) at ∙ ap tree_in there, has_production)
    below_to (made (local x)) m there = (ap (λ z. tree_in (kind_in (place.Local x) z)) at ∙ ap tree_in there, has_local x)
    below_to (made forward) m (forwards, left) =
        (forward_below w p (forwarding_to forwards) ∙ ap Some (left_is ∙ left), has_production)

    forwarded_in : (left m : ℕ) (nodes : Option (List Node)) → forwarded left nodes ≡ Some m
        → (left ≡ m) × ((e : List Node) × (nodes ≡ Some e))
    forwarded_in left m None there = absurd (cc there)
    forwarded_in left m (Some e) there = (same_Some left m there, (e, refl))

    below_from : (s : Step) (m : ℕ) → IsBelowIn w part p s m → IsBelow production s m
    below_from (child k) m (there, has) =
        tree_from m (kind_at production (place.Child k)) (sym (ap (λ z. tree_in (kind_in (place.Child k) z)) at) ∙ there)
    below_from (made (local x)) m (there, has) =
        tree_from m (kind_at production (place.Local x)) (sym (ap (λ z. tree_in (kind_in (place.Local x) z)) at) ∙ there)
    below_from (made forward) m (there, has) =
        let (left, forwards) = forwarded_in (w.left p) m (w.writes (w.production_owner p) p (tree_of forward)) there in
        (forwarding_from forwards, sym left_is ∙ left)

    -- what occurs on the left side
    left_to : (d : Direction) (x : ℕ) → Occurs a d x production.left → OccursIn w part d (w.left p) x
    left_to d x occurs = subst (λ z. OccursIn w part d z x) (sym left_is) (occurs_to d production.left x occurs)

    left_from : (d : Direction) (x : ℕ) → OccursIn w part d (w.left p) x → Occurs a d x production.left
    left_from d x occurs = subst (λ z. Occurs a d x z) left_is (occurs_from d (w.left p) x occurs)

    -- the edges
    pub edge_to : (v x : Vertex) → HasFlowEdge a production v x → HasEdgeIn w part p v x
    edge_to v x (flow.by_rule {nodes = nodes} rule reads) = by_rule (rule_to v nodes rule) reads
    edge_to v x (flow.by_flow_type {s = s} {x = y} {i = i} {m = m} there occurs needs) =
        by_flow_type (below_to s m there) (occurs_to Synthesized m y occurs) (needs_to m y i needs)
    edge_to v x (flow.by_tree {k = k} {x = y} {m = m} there occurs) = by_tree (below_to (made k) m there) (occurs_to Synthesized m y occurs)
    edge_to v x (flow.by_copy_up {x = y} occurs free forwards) =
        by_copy_up (left_to Synthesized y occurs) (λ has. free (has_rule_from (top_synthesized y) has)) (forwarding_to forwards)
    edge_to v x (flow.by_copy_down {i = i} occurs free forwards) =
        by_copy_down (left_to Inherited i occurs) (λ has. free (has_rule_from (inherited (made forward) i) has)) (forwarding_to forwards)

    pub edge_from : (v x : Vertex) → HasEdgeIn w part p v x → HasFlowEdge a production v x
    edge_from v x (by_rule {e = nodes} rule reads) = flow.by_rule (rule_from v nodes rule) reads
    edge_from v x (by_flow_type {s = s} {a = y} {i = i} {m = m} there occurs needs) =
        flow.by_flow_type (below_from s m there) (occurs_from Synthesized m y occurs) (needs_from m y i needs)
    edge_from v x (by_tree {k =
        k} {a = y} {m = m} there occurs) = flow.by_tree (below_from (made k) m there) (occurs_from Synthesized m y occurs)
    edge_from v x (by_copy_up {a = y} occurs free forwards) =
        flow.by_copy_up (left_from Synthesized y occurs) (λ has. free (has_rule_to (top_synthesized y) has)) (forwarding_from forwards)
    edge_from v x (by_copy_down {i = i} occurs free forwards) =
        flow.by_copy_down (left_from Inherited i occurs) (λ has. free (has_rule_to (inherited (made forward) i) has)) (forwarding_from forwards)

    -- the fields
    well_defined_to : IsWellDefinedProduction a production → IsWellDefinedIn w part p
    well_defined_to good = record {
      top = λ x occurs. elim (good.top x (left_from Synthesized x occurs)) [
        | inl has ↦ inl (has_rule_to (top_synthesized x) has)
        | inr forwards ↦ inr (forwarding_to forwards)
      ];
      below = λ v nodes s x m i rule reads there needs. elim (good.below s i (record {
        vertex = v;
        nodes = nodes;
        attribute = x;
        nonterminal = m;
        rule = rule_from v nodes rule;
        reads = reads;
        below = below_from s m there;
        needs = needs_from m x i needs;
      })) [
        | inl has ↦ inl (has_rule_to (inherited s i) has)
        | inr forwarded ↦ inr forwarded
      ];
      flow_types = λ x i occurs leads. subst (λ z. Contains (w.needs z x) i) (sym left_is)
          (needs_to production.left x i (good.flow_types x i (left_from Synthesized x occurs) (leads_map edge_from leads)));
      forward_flow_type = λ i leads. subst (λ z. Contains (w.forward_needs z) i) (sym left_is)
          (forward_needs_to production.left i (good.forward_flow_type i (leads_map edge_from leads)));
      acyclic = λ v leads. good.acyclic v (leads_map edge_from leads);
    }

    well_defined_from : IsWellDefinedIn w part p → IsWellDefinedProduction a production
    well_defined_from good = record {
      top = λ x occurs. elim (good.top x (left_to Synthesized x occurs)) [
        | inl has ↦ inl (has_rule_from (top_synthesized x) has)
        | inr forwards ↦ inr (forwarding_from forwards)
      ];
      below =
          λ s i read. elim (good.below read.vertex read.nodes s read.attribute read.nonterminal i (rule_to read.vertex read.nodes read.rule)
          read.reads (below_to s read.nonterminal read.below) (needs_to read.nonterminal read.attribute i read.needs)) [
            | inl has ↦ inl (has_rule_from (inherited s i) has)
            | inr forwarded ↦ inr forwarded
          ];
      flow_types = λ x i occurs leads. needs_from production.left x i (subst (λ z. Contains (w.needs z x) i) left_is
          (good.flow_types x i (left_to Synthesized x occurs) (leads_map edge_to leads)));
      forward_flow_type = λ i leads. forward_needs_from production.left i (subst (λ z. Contains (w.forward_needs z) i) left_is
          (good.forward_flow_type i (leads_map edge_to leads)));
      acyclic = λ v leads. good.acyclic v (leads_map edge_to leads);
    }

  -- the attribution is the union of its world
  pub is_union : IsUnion a start
  is_union p production at = (well_defined_to p production at, well_defined_from p production at)

  -- what isn't a production is in no part
  production_to : (p : ℕ) (r : Option Production) → slice_get a.productions p ≡ r → Has part (maker_in (length a.extensions) r)
      → EachProduction a (IsWellDefinedProduction a) → IsWellDefinedIn w part p
  production_to p None at has each = absurd (omega (arith, has))
  production_to p (Some production) at has each = (is_union p production at).0 (each p production at)

  pub part_to : AreWellDefinedAttributes a (Some start) None → IsWellDefinedPart w part
  part_to good = record {
    productions = λ p has. production_to p (slice_get a.productions p) refl has good.productions;
    forward_needs =
        λ m x i occurs has. needs_to m x i (good.forward_needs m x i (occurs_from Synthesized m x occurs) (forward_needs_from m i has));
    start_inherits = λ i occurs. good.start_inherits i (occurs_from Inherited start i occurs);
  }

  pub part_from : IsWellDefinedPart w part → AreWellDefinedAttributes a (Some start) None
  part_from good = record {
    productions = λ p production at. (is_union p production at).1 (good.productions p (has_production p production at));
    forward_needs =
        λ m x i occurs has. needs_from m x i (good.forward_needs m x i (occurs_to Synthesized m x occurs) (forward_needs_to m i has));
    start_inherits = λ i occurs. good.start_inherits i (occurs_to Inherited start i occurs);
    forwards = tt;
    forward_equations = tt;
  }

  pub are_union : AreUnion a start
  are_union = (part_to, part_from)
