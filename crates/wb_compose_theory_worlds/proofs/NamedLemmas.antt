-- In the world of an attribution owners declare and write what they may.
use Rattle.std.proofs.Common.{◌≡◌, ◌⊎◌, ◌∙◌, ◌&&◌, ℕ, List, Option, Some, None, Bool, true, false, IsTrue, Contains}
use Rattle.std.proofs.Common.{refl, sym, subst, ap, inl, inr, slice_get, option_map, length, All}
use Rattle.std.specs.Prelude.{IsSome, IfSome}
use Rattle.std.proofs.lemmas.Option.{same_Some}
use Rattle.wb_lemmas.proofs.Elements.{all_contained}
use Rattle.wb_lemmas.proofs.Members.{contains_at, nothing_in}
use Rattle.wb_flow_theory.proofs.OccurrenceLemmas.{goes_seen}
use Rattle.wb_flow_theory.specs.Modular.{IsHosts}
use Rattle.wb_flow_theory.specs.Occurrences.{Goes}
use Rattle.wb_flow_theory.specs.Rules.{Reads, target_vertex, node_read}
use Rattle.wb_flow_theory.specs.Vertices.{local, forward, made, Vertex, top_synthesized, top_inherited, synthesized, inherited, tree_of}
use Rattle.wb_flow_theory.specs.Vertices.{step_to}
use Rattle.wb_base.specs.declared.symbol.Kind.{Kind}
use Rattle.wb_base.specs.declared.symbol.Kind.TheVariants as kind
use Rattle.wb_eval_theory.proofs.RuleLemmas.{both}
use Rattle.wb_syntax_expressions.specs.declared.node.Node.TheVariants as n
use Rattle.wb_syntax_resolved.specs.declared.attributes.Attribute.{Attribute}
use Rattle.wb_syntax_resolved.specs.declared.attributes.Direction.{Direction}
use Rattle.wb_syntax_resolved.specs.declared.attributes.Direction.TheVariants.{Synthesized, Inherited}
use Rattle.wb_syntax_resolved.specs.declared.attributes.Nonterminal.{Nonterminal}
use Rattle.wb_syntax_resolved.specs.declared.attributes.Occurrence.{Occurrence}
use Rattle.wb_syntax_resolved.specs.declared.attribution.AttributionParts.{AttributionParts}
use Rattle.wb_syntax_resolved.specs.declared.equation.Equation.{Equation}
use Rattle.wb_syntax_resolved.specs.declared.equation.Place.{Place}
use Rattle.wb_syntax_resolved.specs.declared.equation.Place.TheVariants as place
use Rattle.wb_syntax_resolved.specs.declared.equation.Target.{Target}
use Rattle.wb_syntax_resolved.specs.declared.equation.Target.TheVariants as target
use Rattle.wb_syntax_resolved.specs.declared.production.Child.{Child}
use Rattle.wb_syntax_resolved.specs.declared.production.ChildKind.TheVariants as child_kind
use Rattle.wb_syntax_resolved.specs.declared.production.Forward.{Forward}
use Rattle.wb_syntax_resolved.specs.declared.production.Local.{Local}
use Rattle.wb_syntax_resolved.specs.declared.production.Production.{Production}
use Rattle.wb_syntax_resolved.specs.declared.production.ProductionRole.{ProductionRole}
use Rattle.wb_syntax_resolved.specs.declared.production.ProductionRole.TheVariants.{Concrete, Abstract}
use Rattle.wb_syntax_resolved.specs.Attribution.{IsAttribution}
use Rattle.wb_syntax_resolved.specs.Expression.{Node}
use Rattle.wb_syntax_resolved.specs.Named.{IsNamedExpression, IsNamedChild, IsChildKindOf, IsNamedOccurrence, IsNamedLocal, IsNamedEquation}
use Rattle.wb_syntax_resolved.specs.Named.{IsNamedTarget, IsNamedNode}
use Rattle.wb_syntax_resolved.specs.Owned.{IsOwnOccurrence, IsOpenTo, IsOwnEquation, IsForOwnLocal, IsForOwnOccurrence}
use Rattle.wb_syntax_resolved.specs.Owners as numbers
use Rattle.wb_syntax_resolved.specs.Visible.{SeesNonterminal, SeesAttribute, SeesOccurrence, SeesPlace, kind_at, owner_of_local}
use Rattle.wb_syntax_resolved.specs.Visible.{place_owner}
use Rattle.wb_compose_theory_worlds.specs.Attributions.{same_owner, owner_in, goes_so, occurrence_at, declared_by, needs_of}
use Rattle.wb_compose_theory_worlds.specs.Attributions.{forward_needs_of, left_in}
use Rattle.wb_compose_theory_worlds.specs.Attributions.{kind_in, tree_in, place_owner_in}
use Rattle.wb_compose_theory_worlds.specs.Attributions.{Written, equation_at, local_rule, forward_rule, rule_at, rule_in, written_by}
use Rattle.wb_compose_theory_worlds.specs.Attributions.{world_of, maker_in}
use Rattle.wb_compose_theory_worlds.specs.Attributions.{IsComposed}
use Rattle.wb_compose_theory_worlds.specs.Worlds.{Owner, host, extension, owner_of, World, part_of, Sees, below, IsBelowIn, OccursIn}
use Rattle.wb_compose_theory_worlds.specs.Worlds.{IsVertexIn}
use Rattle.wb_compose_theory_worlds.specs.Named.{IsNamed, MayWrite, IsOwnLocal}
use Rattle.wb_compose_theory_worlds.proofs.AttributionLemmas.{occurrence_found, left_is}
use Rattle.wb_compose_theory_worlds.proofs.AttributionLemmas.{owner_is, named, found_equation}
use Rattle.wb_compose_theory_worlds.proofs.AttributionLemmas.{forwarding_to, are_union}
use Rattle.wb_compose_theory_worlds.proofs.UnionLemmas.{union_is_well_defined}
use Rattle.wb_compose_theory_worlds.proofs.SightLemmas.{sees_itself}
use Rattle.wb_compose_theory_worlds.proofs.StayLemmas.{forward_below}
use Rattle.wb_compose_theory_worlds.proofs.FoundLemmas.{owner_again, goes_to, IsFor, found_occurrence, tree_from, owner_equal, sees_to, closed_from}

-- a rule of a production, and whose it is
pub data IsRuleOf (production : Production) (v : Vertex) (owner : ℕ) (nodes : List Node) : Type 0 where
  of_equation : (e : Equation) → Contains production.equations e → v ≡ target_vertex e.target → owner ≡ e.owner → nodes ≡ e.nodes
      → IsRuleOf production v owner nodes
  of_local : (x : ℕ) (l : Local) → slice_get production.locals x ≡ Some l → v ≡ tree_of (local x) → owner ≡ l.owner → nodes ≡ l.nodes
      → IsRuleOf production v owner nodes
  of_forward : (f : Forward) → production.forward ≡ Some f → v ≡ tree_of forward → owner ≡ production.owner → nodes ≡ f.nodes
      → IsRuleOf production v owner nodes

module _ (a : AttributionParts) (is : IsAttribution a) (start : ℕ) (first : IsHosts a start) where
  abbrev w : World
  w = world_of a start

  start_is : w.nonterminal_owner start ≡ host
  start_is = ap owner_in first

  nonterminal_seen : (owner m : ℕ) → SeesNonterminal a owner m → Sees (owner_of owner) (w.nonterminal_owner m)
  nonterminal_seen owner m seen =
      let equal : w.nonterminal_owner m ≡ owner_of seen.nonterminal.owner = ap (λ z. owner_in (option_map (λ (r : Nonterminal). r.owner) z)) seen.is in
      subst (Sees (owner_of owner)) (sym equal) (sees_to owner seen.nonterminal.owner seen.seen)

  attribute_seen : (owner : ℕ) (d : Direction) (x : ℕ) → SeesAttribute a owner d x → Sees (owner_of owner) (w.attribute_owner x)
  attribute_seen owner d x seen =
      let equal : w.attribute_owner x ≡ owner_of seen.attribute.owner = ap (λ z. owner_in (option_map (λ (r : Attribute). r.owner) z)) seen.is in
      subst (Sees (owner_of owner)) (sym equal) (sees_to owner seen.attribute.owner seen.seen)

  -- who declares an occurrence
  pub declares_to : (d : Direction) (m x : ℕ) (r : Occurrence) → Contains a.occurrences r → IsFor m x r → Goes a d x
      → w.declares d (owner_of r.owner) m x ≡ true
  declares_to d m x r has for goes =
      ap (λ b. b && declared_by (owner_of r.owner) (occurrence_at m x a.occurrences)) (goes_to d (slice_get a.attributes x) goes)
      ∙ ap (declared_by (owner_of r.owner)) (occurrence_found a is start m x r has for) ∙ owner_again (owner_of r.owner)

  abbrev pub IsDeclared : Owner → ℕ → ℕ → Type 0
  IsDeclared o m x = (r : Occurrence) × Contains a.occurrences r × (m ≡ r.nonterminal) × (x ≡ r.attribute) × (o ≡ owner_of r.owner)
      × (occurrence_at m x a.occurrences ≡ Some r)

  declared_in : (o : Owner) (m x : ℕ) (r : Option Occurrence) → occurrence_at m x a.occurrences ≡ r → declared_by o r ≡ true
      → IsDeclared o m x
  declared_in o m x None there declared = absurd (cc declared)
  declared_in o m x (Some r) there declared =
      let (has, for) = found_occurrence m x r a.occurrences there in
      (r, has, for.0, for.1, owner_equal o (owner_of r.owner) declared, there)

  pub declared_from : (d : Direction) (o : Owner) (m x : ℕ) → IsTrue (w.declares d o m x) → IsDeclared o m x
  declared_from d o m x declares =
      let (goes, declared) = both (goes_so d (slice_get a.attributes x)) (declared_by o (occurrence_at m x a.occurrences)) declares in
      declared_in o m x (occurrence_at m x a.occurrences) refl declared

  pub occurrence_named : (r : Occurrence) → Contains a.occurrences r → IsNamedOccurrence a r
  occurrence_named r has = all_contained (IsNamedOccurrence a) a.occurrences r is.named.occurrences has

  occurs_seen : (owner : ℕ) (d : Direction) (x m : ℕ) → SeesOccurrence a owner d x m → OccursIn w (part_of (owner_of owner)) d m x
  occurs_seen owner d x m seen = (
    owner_of seen.occurrence.owner,
    sees_to owner seen.occurrence.owner seen.seen,
    declares_to d m x seen.occurrence seen.listed (sym seen.on_nonterminal, sym seen.of_attribute) (goes_seen a owner d x seen.attribute),
  )

  nonterminal : (d : Direction) (o : Owner) (m x : ℕ) → IsTrue (w.declares d o m x) → Sees o (w.nonterminal_owner m)
  nonterminal d o m x declares =
      let (r, has, on, of, owner, there) = declared_from d o m x declares in
      let seen = nonterminal_seen r.owner r.nonterminal (occurrence_named r has).nonterminal in
      subst (λ z. Sees z (w.nonterminal_owner m)) (sym owner) (subst (λ z. Sees (owner_of r.owner) (w.nonterminal_owner z)) (sym on) seen)

  attribute : (d : Direction) (o : Owner) (m x : ℕ) → IsTrue (w.declares d o m x) → Sees o (w.attribute_owner x)
  attribute d o m x declares =
      let (r, has, on, of, owner, there) = declared_from d o m x declares in
      let occurrence = occurrence_named r has in
      let seen = attribute_seen r.owner occurrence.direction r.attribute occurrence.attribute in
      subst (λ z. Sees z (w.attribute_owner x)) (sym owner) (subst (λ z. Sees (owner_of r.owner) (w.attribute_owner z)) (sym of) seen)

  own : (d : Direction) (o : Owner) (m x : ℕ) → IsTrue (w.declares d o m x) → (w.nonterminal_owner m ≡ o) ⊎ (w.attribute_owner x ≡ o)
  own d o m x declares =
      let (r, has, on, of, owner, there) = declared_from d o m x declares in
      elim (all_contained (IsOwnOccurrence a) a.occurrences r is.owned.occurrences has) [
        | inl mine ↦ inr (ap w.attribute_owner of ∙ ap owner_in mine ∙ sym owner)
        | inr mine ↦ inl (ap w.nonterminal_owner on ∙ ap owner_in mine ∙ sym owner)
      ]

  closed : (d : Direction) (o : Owner) (m x : ℕ) → IsTrue (w.declares d o m x) → IsTrue (w.closed m) → w.nonterminal_owner m ≡ o
  closed d o m x declares shut =
      let (r, has, on, of, owner, there) = declared_from d o m x declares in
      let mine = all_contained (IsOpenTo a) a.occurrences r is.owned.open_to has
      (closed_from (slice_get a.nonterminals r.nonterminal) (subst (λ z. IsTrue (w.closed z)) on shut)) in
      ap w.nonterminal_owner on ∙ ap owner_in mine ∙ sym owner

  needs_named : (o : Owner) (m x i : ℕ) → IsTrue (w.declares Synthesized o m x) → Contains (w.needs m x) i
      → OccursIn w (part_of o) Inherited m i
  needs_named o m x i declares has =
      let (r, listed, on, of, owner, there) = declared_from Synthesized o m x declares in
      let inside = subst (λ z. Contains z i) (ap needs_of there) has in
      let seen = all_contained (λ k. SeesOccurrence a r.owner Inherited k r.nonterminal) r.needs i (occurrence_named r listed).needs inside in
      subst (λ z. OccursIn w (part_of z) Inherited m i) (sym owner)
      (subst (λ z. OccursIn w (part_of (owner_of r.owner)) Inherited z i) (sym on) (occurs_seen r.owner Inherited i r.nonterminal seen))

  forward_named_in : (m i : ℕ) (r : Option Nonterminal) → slice_get a.nonterminals m ≡ r → Contains (forward_needs_of r) i
      → OccursIn w (part_of (w.nonterminal_owner m)) Inherited m i
  forward_named_in m i None there has = absurd (nothing_in i has)
  forward_named_in m i (Some r) there has =
      let seen = all_contained (λ k. SeesOccurrence a r.owner Inherited k m) r.forward_needs i (is.named.nonterminals m r there).needs has in
      let equal : w.nonterminal_owner m ≡ owner_of r.owner = ap (λ z. owner_in (option_map (λ (r : Nonterminal). r.owner) z)) there in
      subst (λ z. OccursIn w (part_of z) Inherited m i) (sym equal) (occurs_seen r.owner Inherited i m seen)

  -- what is seen from a production, and of nothing the host sees the start
  left_seen_in : (r : Option Production)
      → ((production : Production) → r ≡ Some production → SeesNonterminal a production.owner production.left)
      → Sees (maker_in (length a.extensions) r) (w.nonterminal_owner (left_in start r))
  left_seen_in None each = subst (Sees (extension (length a.extensions))) (sym start_is) tt
  left_seen_in (Some production) each = nonterminal_seen production.owner production.left (each production refl)

  left_seen : (p : ℕ) → Sees (w.production_owner p) (w.nonterminal_owner (w.left p))
  left_seen p = left_seen_in (slice_get a.productions p) (λ production at. (named a is start p production at).left)

  child_kind_seen : (owner m : ℕ) (role : ProductionRole) → IsChildKindOf a owner role (child_kind.Value (kind.Tree m))
      → SeesNonterminal a owner m
  child_kind_seen owner m Concrete (k, same, seen) = let equal : k ≡ m = cc same in subst (SeesNonterminal a owner) equal seen
  child_kind_seen owner m Abstract seen = seen

  child_at : (production : Production) (m : ℕ) (c : Option Child)
      → ((z : Child) → c ≡ Some z → IsNamedChild a production z)
      → option_map (λ (z : Child). z.kind) c ≡ Some (child_kind.Value (kind.Tree m)) → SeesNonterminal a production.owner m
  child_at production m None each same = absurd (cc same)
  child_at production m (Some c) each same =
      let seen = (each c refl).is_kind in
      let equal : c.kind ≡ child_kind.Value (kind.Tree m) = same_Some c.kind (child_kind.Value (kind.Tree m)) same in
      child_kind_seen production.owner m production.role (subst (IsChildKindOf a production.owner production.role) equal seen)

  child_seen_in : (p k m : ℕ) (r : Option Production) → slice_get a.productions p ≡ r → tree_in (kind_in (place.Child k) r) ≡ Some m
      → Sees (maker_in (length a.extensions) r) (w.nonterminal_owner m)
  child_seen_in p k m None at there = absurd (cc there)
  child_seen_in p k m (Some production) at there =
      let good = named a is start p production at in
      let each : (z : Child) → slice_get production.children k ≡ Some z → IsNamedChild a production z
      = λ z has. all_contained (IsNamedChild a production) production.children z good.children (contains_at production.children z k has) in
      let same = tree_from m (kind_at production (place.Child k)) there in
      nonterminal_seen production.owner m (child_at production m (slice_get production.children k) each same)

  child_seen : (p k m : ℕ) → w.child_at p k ≡ Some m → Sees (w.production_owner p) (w.nonterminal_owner m)
  child_seen p k m there = child_seen_in p k m (slice_get a.productions p) refl there

  module _ (p : ℕ) (production : Production) (at : slice_get a.productions p ≡ Some production) where
    pub local_named : (x : ℕ) (l : Local) → slice_get production.locals x ≡ Some l → IsNamedLocal a production l
    local_named x l has =
        all_contained (IsNamedLocal a production) production.locals l (named a is start p production at).locals (contains_at production.locals l x has)

    pub place_owner_is : (x : ℕ) → w.local_owner p x ≡ owner_of (place_owner production (place.Local x))
    place_owner_is x = ap (place_owner_in (place.Local x)) at

    pub local_owner_is : (x : ℕ) (l : Local) → slice_get production.locals x ≡ Some l → w.local_owner p x ≡ owner_of l.owner
    local_owner_is x l has = place_owner_is x ∙ ap (λ z. owner_of (owner_of_local production z)) has

    -- the local that is there
    abbrev pub IsLocal : ℕ → ℕ → Type 0
    IsLocal x m = (l : Local) × (slice_get production.locals x ≡ Some l) × (l.nonterminal ≡ m)

    local_in : (x m : ℕ) (l : Option Local) → slice_get production.locals x ≡ l
        → option_map (λ (z : Local). child_kind.Value (kind.Tree z.nonterminal)) l ≡ Some (child_kind.Value (kind.Tree m)) → IsLocal x m
    local_in x m None there same = absurd (cc same)
    local_in x m (Some l) there same = let equal : l.nonterminal ≡ m = cc same in (l, there, equal)

    pub local_of : (x m : ℕ) → w.local_at p x ≡ Some m → IsLocal x m
    local_of x m there =
        let kinds = tree_from m (kind_at production (place.Local x)) (sym (ap (λ z. tree_in (kind_in (place.Local x) z)) at) ∙ there) in
        local_in x m (slice_get production.locals x) refl kinds

    local_seen_at : (x m : ℕ) → w.local_at p x ≡ Some m → Sees (w.local_owner p x) (w.nonterminal_owner m)
    local_seen_at x m there =
        let (l, has, same) = local_of x m there in
        let seen = nonterminal_seen l.owner l.nonterminal (local_named x l has).nonterminal in
        subst (λ z. Sees z (w.nonterminal_owner m)) (sym (local_owner_is x l has)) (subst (λ z. Sees (owner_of l.owner) (w.nonterminal_owner z)) same seen)

    local_there_at : (x m : ℕ) → w.local_at p x ≡ Some m → Sees (w.local_owner p x) (w.production_owner p)
    local_there_at x m there =
        let (l, has, same) = local_of x m there in
        let seen = sees_to l.owner production.owner (local_named x l has).there in
        subst (λ z. Sees z (w.production_owner p)) (sym (local_owner_is x l has)) (subst (Sees (owner_of l.owner)) (sym (owner_is a is start p production at)) seen)

    -- what is seen at a place is one step down
    place_seen : (owner m : ℕ) (s : Place) → SeesPlace production owner s (child_kind.Value (kind.Tree m))
        → IsBelowIn w (part_of (owner_of owner)) p (step_to s) m
    place_seen owner m (place.Child k) seen = (
      ap (λ z. tree_in (kind_in (place.Child k) z)) at ∙ ap tree_in seen.is,
      subst (Sees (owner_of owner)) (sym (owner_is a is start p production at)) (sees_to owner production.owner seen.seen),
    )
    place_seen owner m (place.Local x) seen = (
      ap (λ z. tree_in (kind_in (place.Local x) z)) at ∙ ap tree_in seen.is,
      subst (Sees (owner_of owner)) (sym (place_owner_is x)) (sees_to owner (place_owner production (place.Local x)) seen.seen),
    )

    left_occurs : (owner : ℕ) (d : Direction) (x : ℕ) → SeesOccurrence a owner d x production.left
        → OccursIn w (part_of (owner_of owner)) d (w.left p) x
    left_occurs owner d x seen =
        subst (λ z. OccursIn w (part_of (owner_of owner)) d z x) (sym (left_is a is start p production at)) (occurs_seen owner d x production.left seen)

    -- who sees the production sees what is forwarded to
    forward_seen : (owner : ℕ) → numbers.Sees owner production.owner → IsSome production.forward
        → IsBelowIn w (part_of (owner_of owner)) p (made forward) (w.left p)
    forward_seen owner there forwards = (
      forward_below w p (forwarding_to a is start p production at forwards),
      subst (Sees (owner_of owner)) (sym (owner_is a is start p production at)) (sees_to owner production.owner there),
    )

    target_seen : (owner : ℕ) (t : Target) → numbers.Sees owner production.owner → IsNamedTarget a production owner t
        → IsVertexIn w (part_of (owner_of owner)) p (target_vertex t)
    target_seen owner (target.Top y) there seen = left_occurs owner Synthesized y seen
    target_seen owner (target.Place s y) there (m, below_there, seen) =
        (m, place_seen owner m s below_there, occurs_seen owner Inherited y m seen)
    target_seen owner (target.Forward y) there (forwards, seen) =
        (w.left p, forward_seen owner there forwards, left_occurs owner Inherited y seen)

    local_kind_in : (x : ℕ) (k : Kind) (l : Option Local)
        → option_map (λ (z : Local). child_kind.Value (kind.Tree z.nonterminal)) l ≡ Some (child_kind.Value k) → (m : ℕ) × (k ≡ kind.Tree m)
    local_kind_in x k None same = absurd (cc same)
    local_kind_in x k (Some l) same = let equal : k ≡ kind.Tree l.nonterminal = cc same in (l.nonterminal, equal)

    node_seen : (owner : ℕ) (node : Node) (v : Vertex) → numbers.Sees owner production.owner → IsNamedNode a production owner node
        → node_read node ≡ Some v → IsVertexIn w (part_of (owner_of owner)) p v
    node_seen owner (n.Label (place.Child k)) v there seen reads = absurd (cc reads)
    node_seen owner (n.Label (place.Local x)) v there (k, seen) reads =
        let (m, same) = local_kind_in x k (slice_get production.locals x) seen.is in
        let tree = subst (λ z. SeesPlace production owner (place.Local x) (child_kind.Value z)) same seen in
        subst (IsVertexIn w (part_of (owner_of owner)) p) (same_Some (tree_of (local x)) v reads) (m, place_seen owner m (place.Local x) tree)
    node_seen owner (n.Read s y) v there (m, below_there, seen) reads =
        subst (IsVertexIn w (part_of (owner_of owner)) p) (same_Some (synthesized (step_to s) y) v reads)
        (m, place_seen owner m s below_there, occurs_seen owner Synthesized y m seen)
    node_seen owner (n.Top y) v there seen reads =
        subst (IsVertexIn w (part_of (owner_of owner)) p) (same_Some (top_inherited y) v reads) (left_occurs owner Inherited y seen)
    node_seen owner (n.Forward y) v there (forwards, seen) reads =
        subst (IsVertexIn w (part_of (owner_of owner)) p) (same_Some (synthesized (made forward) y) v reads)
        (w.left p, forward_seen owner there forwards, left_occurs owner Synthesized y seen)
    node_seen owner node v there seen reads = absurd (cc reads)

    -- the rules that are found, and whose they are
    of_local_in : (x : ℕ) (r : Written) (l : Option Local) → slice_get production.locals x ≡ l → local_rule l ≡ Some r
        → IsRuleOf production (tree_of (local x)) r.0 r.1
    of_local_in x r None has found = absurd (cc found)
    of_local_in x r (Some l) has found =
        let same = sym (same_Some (l.owner, l.nodes) r found) in of_local x l has refl (ap (λ z. z.0) same) (ap (λ z. z.1) same)

    of_forward_in : (r : Written) (f : Option Forward) → production.forward ≡ f → forward_rule production.owner f ≡ Some r
        → IsRuleOf production (tree_of forward) r.0 r.1
    of_forward_in r None has found = absurd (cc found)
    of_forward_in r (Some f) has found =
        let same = sym (same_Some (production.owner, f.nodes) r found) in of_forward f has refl (ap (λ z. z.0) same) (ap (λ z. z.1) same)

    of_equation_in : (v : Vertex) (r : Written) → equation_at v production.equations ≡ Some r → IsRuleOf production v r.0 r.1
    of_equation_in v r found =
        let (e, has, target, written) = found_equation a is start p production at v r production.equations found in
        of_equation e has target (ap (λ z. z.0) written) (ap (λ z. z.1) written)

    rule_of_found : (v : Vertex) (r : Written) → rule_at production v ≡ Some r → IsRuleOf production v r.0 r.1
    rule_of_found (tree_of (local k)) r found = of_local_in k r (slice_get production.locals k) refl found
    rule_of_found (tree_of forward) r found = of_forward_in r production.forward refl found
    rule_of_found (top_synthesized y) r found = of_equation_in (top_synthesized y) r found
    rule_of_found (top_inherited y) r found = of_equation_in (top_inherited y) r found
    rule_of_found (synthesized s y) r found = of_equation_in (synthesized s y) r found
    rule_of_found (inherited s y) r found = of_equation_in (inherited s y) r found

    pub there_of : (v : Vertex) (owner : ℕ) (nodes : List Node) → IsRuleOf production v owner nodes → numbers.Sees owner production.owner
    there_of v owner nodes (of_equation e has target same known) =
        let equation = all_contained (IsNamedEquation a production) production.equations e (named a is start p production at).equations has in
        subst (λ z. numbers.Sees z production.owner) (sym same) equation.there
    there_of v owner nodes (of_local x l has target same known) =
        subst (λ z. numbers.Sees z production.owner) (sym same) (local_named x l has).there
    there_of v owner nodes (of_forward f has target same known) = inr (sym same)

    seen_of : (v : Vertex) (owner : ℕ) (nodes : List Node) → IsRuleOf production v owner nodes → IsVertexIn w (part_of (owner_of owner)) p v
    seen_of v owner nodes (of_equation e has target same known) =
        let equation = all_contained (IsNamedEquation a production) production.equations e (named a is start p production at).equations has in
        let seen = target_seen e.owner e.target equation.there equation.target in
        subst (IsVertexIn w (part_of (owner_of owner)) p) (sym target)
        (subst (λ z. IsVertexIn w (part_of (owner_of z)) p (target_vertex e.target)) (sym same) seen)
    seen_of v owner nodes (of_local x l has target same known) =
        let kinds = ap (λ z. tree_in (kind_in (place.Local x) z)) at
        ∙ ap (λ z. tree_in (option_map (λ (k : Local). child_kind.Value (kind.Tree k.nonterminal)) z)) has in
        let mine : owner_of owner ≡ w.local_owner p x = ap owner_of same ∙ sym (local_owner_is x l has) in
        subst (IsVertexIn w (part_of (owner_of owner)) p) (sym target)
        (l.nonterminal, (kinds, subst (Sees (owner_of owner)) mine (sees_itself (owner_of owner))))
    seen_of v owner nodes (of_forward f has target same known) =
        subst (IsVertexIn w (part_of (owner_of owner)) p) (sym target)
        (w.left p, forward_seen owner (inr (sym same)) (subst IsSome (sym has) refl))

    -- who may write for a target
    declares_at : (owner : ℕ) (d : Direction) (m y : ℕ) (s : Place) (o : Occurrence) → Contains a.occurrences o → IsFor m y o
        → o.owner ≡ owner
        → Goes a d y → w.declares d (owner_of owner) m y ≡ true
    declares_at owner d m y s o has for mine goes =
        subst (λ z. w.declares d (owner_of z) m y ≡ true) mine (declares_to d m y o has for goes)

    local_owner_in : (owner : ℕ) (l : Option Local) → option_map (λ (z : Local). z.owner) l ≡ Some owner
        → owner_of_local production l ≡ owner
    local_owner_in owner None same = absurd (cc same)
    local_owner_in owner (Some l) same = same_Some l.owner owner same

    own_place : (owner y : ℕ) (s : Place) → IsForOwnLocal production owner (target.Place s y) → IsOwnLocal w (owner_of owner) p (step_to s)
    own_place owner y (place.Child k) mine = absurd mine
    own_place owner y (place.Local x) mine = place_owner_is x ∙ ap owner_of (local_owner_in owner (slice_get production.locals x) mine)

    place_below : (s : Place) (m : ℕ) → kind_at production s ≡ Some (child_kind.Value (kind.Tree m)) → below w p (step_to s) ≡ Some m
    place_below (place.Child k) m there = ap (λ z. tree_in (kind_in (place.Child k) z)) at ∙ ap tree_in there
    place_below (place.Local x) m there = ap (λ z. tree_in (kind_in (place.Local x) z)) at ∙ ap tree_in there

    own_production : (owner : ℕ) → production.owner ≡ owner → w.production_owner p ≡ owner_of owner
    own_production owner mine = owner_is a is start p production at ∙ ap owner_of mine

    target_may : (owner : ℕ) (t : Target)
        → (production.owner ≡ owner) ⊎ (IsForOwnLocal production owner t ⊎ IsForOwnOccurrence a production owner t)
        → IsNamedTarget a production owner t → MayWrite w (owner_of owner) p (target_vertex t)
    target_may owner (target.Top y) (inl mine) seen = inl (own_production owner mine)
    target_may owner (target.Top y) (inr (inl mine)) seen = absurd mine
    target_may owner (target.Top y) (inr (inr mine)) seen =
        let (of, on) = mine.is_target in
        let goes = goes_seen a owner Synthesized y seen.attribute in
        let declares = declares_at owner Synthesized production.left y (place.Child 0) mine.occurrence mine.listed (sym on, sym of) mine.declared goes in
        inr (subst (λ z. w.declares Synthesized (owner_of owner) z y ≡ true) (sym (left_is a is start p production at)) declares)
    target_may owner (target.Place s y) (inl mine) seen = inl (own_production owner mine)
    target_may owner (target.Place s y) (inr (inl mine)) seen = inr (inl (own_place owner y s mine))
    target_may owner (target.Place s y) (inr (inr mine)) (m, below_there, seen) =
        let (of, on) = mine.is_target in
        let k = mine.occurrence.nonterminal in
        let goes = goes_seen a owner Inherited y seen.attribute in
        let declares = declares_at owner Inherited k y s mine.occurrence mine.listed (refl, sym of) mine.declared goes in
        inr (inr (k, place_below s k on, declares))
    target_may owner (target.Forward y) (inl mine) seen = inl (own_production owner mine)
    target_may owner (target.Forward y) (inr (inl mine)) seen = absurd mine
    target_may owner (target.Forward y) (inr (inr mine)) (forwards, seen) =
        let (of, on) = mine.is_target in
        let goes = goes_seen a owner Inherited y seen.attribute in
        let declares = declares_at owner Inherited production.left y (place.Child 0) mine.occurrence mine.listed (sym on, sym of) mine.declared goes in
        inr (inr (
          w.left p,
          forward_below w p (forwarding_to a is start p production at forwards),
          subst (λ z. w.declares Inherited (owner_of owner) z y ≡ true) (sym (left_is a is start p production at)) declares,
        ))

    may_of : (v : Vertex) (owner : ℕ) (nodes : List Node) → IsRuleOf production v owner nodes → MayWrite w (owner_of owner) p v
    may_of v owner nodes (of_equation e has target same known) =
        let equation = all_contained (IsNamedEquation a production) production.equations e (named a is start p production at).equations has in
        let mine = all_contained (IsOwnEquation a production) production.equations e
        (all_contained (λ (r : Production). All (IsOwnEquation a r) r.equations) a.productions production is.owned.equations
        (contains_at a.productions production p at)) has in
        subst (MayWrite w (owner_of owner) p) (sym target)
        (subst (λ z. MayWrite w (owner_of z) p (target_vertex e.target)) (sym same) (target_may e.owner e.target mine equation.target))
    may_of v owner nodes (of_local x l has target same known) =
        subst (MayWrite w (owner_of owner) p) (sym target) (local_owner_is x l has ∙ ap owner_of (sym same))
    may_of v owner nodes (of_forward f has target same known) =
        subst (MayWrite w (owner_of owner) p) (sym target) (owner_is a is start p production at ∙ ap owner_of (sym same))

    abbrev AreNamed : ℕ → List Node → Type 0
    AreNamed owner nodes = All (IsNamedNode a production owner) nodes

    named_of : (v : Vertex) (owner : ℕ) (nodes : List Node) → IsRuleOf production v owner nodes → AreNamed owner nodes
    named_of v owner nodes (of_equation e has target same known) =
        let equation = all_contained (IsNamedEquation a production) production.equations e (named a is start p production at).equations has in
        subst (AreNamed owner) (sym known) (subst (λ z. AreNamed z e.nodes) (sym same) equation.value.named)
    named_of v owner nodes (of_local x l has target same known) =
        subst (AreNamed owner) (sym known) (subst (λ z. AreNamed z l.nodes) (sym same) (local_named x l has).value.named)
    named_of v owner nodes (of_forward f has target same known) =
        let seen = subst (λ o. IfSome o (λ (g : Forward). IsNamedExpression a production production.owner g.nodes)) has
        (named a is start p production at).forward in
        subst (AreNamed owner) (sym known) (subst (λ z. AreNamed z f.nodes) (sym same) seen.named)

    reads_of : (v x : Vertex) (owner : ℕ) (nodes : List Node) → IsRuleOf production v owner nodes → Reads nodes x
        → IsVertexIn w (part_of (owner_of owner)) p x
    reads_of v x owner nodes rule (node, has, reads) =
        node_seen owner node x (there_of v owner nodes rule)
        (all_contained (IsNamedNode a production owner) nodes node (named_of v owner nodes rule) has) reads

  -- whose rule it is that an owner writes
  pub record IsSource (o : Owner) (p : ℕ) (v : Vertex) (nodes : List Node) : Type 0 where
    pub production : Production
    pub at : slice_get a.productions p ≡ Some production
    pub owner : ℕ
    pub same : o ≡ owner_of owner
    pub rule : IsRuleOf production v owner nodes

  source_by : (o : Owner) (nodes : List Node) (r : Written) (same : Bool) → elim same [ true ↦ Some r.1 | false ↦ None ] ≡ Some nodes
      → (same ≡ true) × (r.1 ≡ nodes)
  source_by o nodes r true found = (refl, same_Some r.1 nodes found)
  source_by o nodes r false found = absurd (cc found)

  source_at : (o : Owner) (p : ℕ) (v : Vertex) (nodes : List Node) (production : Production) → slice_get a.productions p ≡ Some production
      → (r : Option Written) → rule_at production v ≡ r → written_by o r ≡ Some nodes → IsSource o p v nodes
  source_at o p v nodes production at None found writes = absurd (cc writes)
  source_at o p v nodes production at (Some r) found writes =
      let (mine, known) = source_by o nodes r (same_owner o (owner_of r.0)) writes in
      record {
        production = production;
        at = at;
        owner = r.0;
        same = owner_equal o (owner_of r.0) mine;
        rule = subst (IsRuleOf production v r.0) known (rule_of_found p production at v r found);
      }

  source_in : (o : Owner) (p : ℕ) (v : Vertex) (nodes : List Node) (r : Option Production) → slice_get a.productions p ≡ r
      → written_by o (rule_in v r) ≡ Some nodes → IsSource o p v nodes
  source_in o p v nodes None at writes = absurd (cc writes)
  source_in o p v nodes (Some production) at writes = source_at o p v nodes production at (rule_at production v) refl writes

  pub source : (o : Owner) (p : ℕ) (v : Vertex) (nodes : List Node) → w.writes o p v ≡ Some nodes → IsSource o p v nodes
  source o p v nodes writes = source_in o p v nodes (slice_get a.productions p) refl writes

  local_seen_in : (p x m : ℕ) (r : Option Production) → slice_get a.productions p ≡ r → w.local_at p x ≡ Some m
      → Sees (w.local_owner p x) (w.nonterminal_owner m) × Sees (w.local_owner p x) (w.production_owner p)
  local_seen_in p x m None at there = absurd (cc (sym (ap (λ z. tree_in (kind_in (place.Local x) z)) at) ∙ there))
  local_seen_in p x m (Some production) at there = (local_seen_at p production at x m there, local_there_at p production at x m there)

  pub is_named : IsNamed w
  is_named = record {
    start_host = start_is;
    left_seen = left_seen;
    child_seen = child_seen;
    local_seen = λ p x m there. (local_seen_in p x m (slice_get a.productions p) refl there).0;
    local_there = λ p x m there. (local_seen_in p x m (slice_get a.productions p) refl there).1;
    nonterminal = nonterminal;
    attribute = attribute;
    own = own;
    closed = closed;
    needs_named = needs_named;
    forward_named = λ m i has. forward_named_in m i (slice_get a.nonterminals m) refl has;
    writes_there = λ o p v e writes.
        let s = source o p v e writes in
        let seen = sees_to s.owner s.production.owner (there_of p s.production s.at v s.owner e s.rule) in
        subst (λ z. Sees z (w.production_owner p)) (sym s.same)
        (subst (Sees (owner_of s.owner)) (sym (owner_is a is start p s.production s.at)) seen);
    writes_seen = λ o p v e writes.
        let s = source o p v e writes in
        subst (λ z. IsVertexIn w (part_of z) p v) (sym s.same) (seen_of p s.production s.at v s.owner e s.rule);
    writes_may = λ o p v e writes.
        let s = source o p v e writes in
        subst (λ z. MayWrite w z p v) (sym s.same) (may_of p s.production s.at v s.owner e s.rule);
    reads_seen = λ o p v e x writes reads.
        let s = source o p v e writes in
        subst (λ z. IsVertexIn w (part_of z) p x) (sym s.same) (reads_of p s.production s.at v x s.owner e s.rule reads);
  }

  -- the union of what is well defined apart
  pub is_composed : IsComposed a start
  is_composed apart = (are_union a is start).1 (union_is_well_defined w (length a.extensions) is_named apart)
