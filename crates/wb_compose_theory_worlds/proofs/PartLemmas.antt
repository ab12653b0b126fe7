-- Parts that have the same owners are alike; so are an attribution's host, and its only extension with the host.
use Rattle.std.proofs.Common.{◌≡◌, ◌∙◌, ℕ, zero, suc, List, Option, Some, None, Contains, refl, sym, subst, ap, inl, inr, arith}
use Rattle.std.proofs.Common.{IsTrue, length, slice_get, option_map}
use Rattle.wb_flow_theory.specs.Modular.{AreWellDefinedAttributes, IsBridging, IsHosts}
use Rattle.wb_flow_theory.specs.Vertices.{forward, Step, made, Vertex, top_synthesized, inherited}
use Rattle.wb_syntax_resolved.specs.declared.attributes.Direction.TheVariants.{Synthesized, Inherited}
use Rattle.wb_syntax_resolved.specs.declared.attributes.Nonterminal.{Nonterminal}
use Rattle.wb_syntax_resolved.specs.declared.attribution.AttributionParts.{AttributionParts}
use Rattle.wb_syntax_resolved.specs.declared.production.Production.{Production}
use Rattle.wb_syntax_resolved.specs.Attribution.{IsAttribution}
use Rattle.wb_syntax_resolved.specs.Owned.{IsClosed}
use Rattle.wb_syntax_resolved.specs.Expression.{Node}
use Rattle.wb_compose_theory_worlds.specs.Attributions.{owner_in, maker_in, world_of, IsHostTested, IsExtensionTested}
use Rattle.wb_compose_theory_worlds.specs.Parts.{HasEdgeIn, by_rule, by_flow_type, by_tree, by_copy_up, by_copy_down, IsWellDefinedIn}
use Rattle.wb_compose_theory_worlds.specs.Parts.{IsWellDefinedPart}
use Rattle.wb_compose_theory_worlds.specs.Parts.{IsWellDefinedExtension}
use Rattle.wb_compose_theory_worlds.specs.Worlds.{host, extension, owner_of, World, Part, plain, alone, union, IsBelowIn, step_owner}
use Rattle.wb_compose_theory_worlds.specs.Worlds.{IsRuleIn}
use Rattle.wb_compose_theory_worlds.proofs.AttributionLemmas.{left_is, owner_is, named, has_rule_to, has_rule_from, forwarding_to}
use Rattle.wb_compose_theory_worlds.proofs.AttributionLemmas.{forwarding_from}
use Rattle.wb_compose_theory_worlds.proofs.FoundLemmas.{leads_map, closed_to, closed_from}
use Rattle.wb_compose_theory_worlds.proofs.AttributionLemmas.{forward_needs_to, forward_needs_from, edge_to, edge_from, part_to, part_from}
use Rattle.wb_compose_theory_worlds.proofs.SightLemmas.{Inside, occurs_more, defined_more}

module _ (w : World) (part other : Part) (more : Inside part other) (less : Inside other part) (p : ℕ) where
  rule_more : (v : Vertex) (e : List Node) → IsRuleIn w part p v e → IsRuleIn w other p v e
  rule_more v e (o, has, writes) = (o, more o has, writes)

  below_more : (s : Step) (m : ℕ) → IsBelowIn w part p s m → IsBelowIn w other p s m
  below_more s m (there, has) = (there, more (step_owner w p s) has)

  edge_more : (v x : Vertex) → HasEdgeIn w part p v x → HasEdgeIn w other p v x
  edge_more v x (by_rule {e = e} rule reads) = by_rule (rule_more v e rule) reads
  edge_more v x (by_flow_type {s = s} {a = a} {m = m} there occurs needs) =
      by_flow_type (below_more s m there) (occurs_more w Synthesized m a part other more occurs) needs
  edge_more v x (by_tree {k = k} {a = a} {m = m} there occurs) =
      by_tree (below_more (made k) m there) (occurs_more w Synthesized m a part other more occurs)
  edge_more v x (by_copy_up {a = a} occurs free forwards) =
      by_copy_up (occurs_more w Synthesized (w.left p) a part other more occurs)
      (λ has. free (defined_more w p (top_synthesized a) other part less has)) forwards
  edge_more v x (by_copy_down {i = i} occurs free forwards) =
      by_copy_down (occurs_more w Inherited (w.left p) i part other more occurs)
      (λ has. free (defined_more w p (inherited (made forward) i) other part less has)) forwards

module _ (w : World) (part other : Part) (more : Inside part other) (less : Inside other part) where
  production_more : (p : ℕ) → IsWellDefinedIn w part p → IsWellDefinedIn w other p
  production_more p good = record {
    top = λ a occurs. elim (good.top a (occurs_more w Synthesized (w.left p) a other part less occurs)) [
      | inl has ↦ inl (defined_more w p (top_synthesized a) part other more has)
      | inr forwards ↦ inr forwards
    ];
    below = λ v e s a m i rule reads there needs. elim (good.below v e s a m i (rule_more w other part less more p v e rule) reads
        (below_more w other part less more p s m there) needs) [
          | inl has ↦ inl (defined_more w p (inherited s i) part other more has)
          | inr is ↦ inr is
        ];
    flow_types = λ a i occurs leads. good.flow_types a i (occurs_more w Synthesized (w.left p) a other part less occurs)
        (leads_map (edge_more w other part less more p) leads);
    forward_flow_type = λ i leads. good.forward_flow_type i (leads_map (edge_more w other part less more p) leads);
    acyclic = λ v leads. good.acyclic v (leads_map (edge_more w other part less more p) leads);
  }

  part_more : IsWellDefinedPart w part → IsWellDefinedPart w other
  part_more good = record {
    productions = λ p has. production_more p (good.productions p (less (w.production_owner p) has));
    forward_needs = λ m a i occurs has. good.forward_needs m a i (occurs_more w Synthesized m a other part less occurs) has;
    start_inherits = λ i occurs. good.start_inherits i (occurs_more w Inherited w.start i other part less occurs);
  }

-- of no extensions there is the host alone, and of one that one
none_plain : (n : ℕ) → n ≡ 0 → Inside (union n) plain
none_plain n is host has = tt
none_plain n is (extension k) has = omega (arith, is, has)

plain_none : (n : ℕ) → Inside plain (union n)
plain_none n host has = tt
plain_none n (extension k) has = absurd has

one_alone : (n : ℕ) → n ≡ 1 → Inside (union n) (alone 0)
one_alone n is host has = tt
one_alone n is (extension k) has = omega (arith, is, has)

alone_one : (n : ℕ) → n ≡ 1 → Inside (alone 0) (union n)
alone_one n is host has = tt
alone_one n is (extension k) has = omega (arith, is, has)

owner_first : (k : ℕ) → owner_of k ≡ extension 0 → k ≡ 1
owner_first zero is = absurd (cc is)
owner_first (suc k) is = let equal : k ≡ 0 = cc is in ap suc equal

host_first : (k : ℕ) → owner_of k ≡ host → k ≡ 0
host_first zero is = refl
host_first (suc k) is = absurd (cc is)

module _ (a : AttributionParts) (is : IsAttribution a) (start : ℕ) where
  abbrev w : World
  w = world_of a start

  abbrev whole : Part
  whole = union (length a.extensions)

  pub host_tested : IsHostTested a start
  host_tested none =
      let more = none_plain (length a.extensions) none in
      let less = plain_none (length a.extensions) in
      ((λ good. part_more w whole plain more less (part_to a is start good)), (λ good. part_from a is start (part_more w plain whole less more good)))

  module _ (p : ℕ) (production : Production) (at : slice_get a.productions p ≡ Some production) where
    hosts_to : IsHosts a production.left → w.nonterminal_owner (w.left p) ≡ host
    hosts_to hosts = ap w.nonterminal_owner (left_is a is start p production at) ∙ ap owner_in hosts

    hosts_in : (r : Nonterminal) → slice_get a.nonterminals production.left ≡ Some r → owner_of r.owner ≡ host → IsHosts a production.left
    hosts_in r there same = ap (option_map (λ (z : Nonterminal). z.owner)) there ∙ ap Some (host_first r.owner same)

    hosts_from : w.nonterminal_owner (w.left p) ≡ host → IsHosts a production.left
    hosts_from hosts =
        let seen = (named a is start p production at).left in
        let owner : w.nonterminal_owner (w.left p) ≡ owner_of seen.nonterminal.owner = ap w.nonterminal_owner (left_is a is start p production at)
        ∙ ap (λ z. owner_in (option_map (λ (r : Nonterminal). r.owner) z)) seen.is in
        hosts_in seen.nonterminal seen.is (sym owner ∙ hosts)

    closed_here : w.closed (w.left p) ≡ w.closed production.left
    closed_here = ap w.closed (left_is a is start p production at)

    open_to : ¬ IsClosed a production.left → ¬ IsTrue (w.closed (w.left p))
    open_to free shut = free (closed_from (slice_get a.nonterminals production.left) (sym closed_here ∙ shut))

    open_from : ¬ IsTrue (w.closed (w.left p)) → ¬ IsClosed a production.left
    open_from free shut = free (closed_here ∙ closed_to (slice_get a.nonterminals production.left) shut)

  -- a production of the first extension is there
  abbrev IsFirst : ℕ → Type 0
  IsFirst p = (production : Production) × (slice_get a.productions p ≡ Some production) × (production.owner ≡ 1)

  first_in : (p : ℕ) (r : Option Production) → slice_get a.productions p ≡ r → length a.extensions ≡ 1
      → maker_in (length a.extensions) r ≡ extension 0 → IsFirst p
  first_in p None at single owner = let equal : length a.extensions ≡ 0 = cc owner in absurd (omega (arith, equal, single))
  first_in p (Some production) at single owner = (production, at, owner_first production.owner owner)

  pub extension_tested : IsExtensionTested a start
  extension_tested single = (to, from) where
    more : Inside whole (alone 0)
    more = one_alone (length a.extensions) single

    less : Inside (alone 0) whole
    less = alone_one (length a.extensions) single

    to : AreWellDefinedAttributes a (Some start) (Some 1) → IsWellDefinedExtension w 0
    to good = record {
      part = part_more w whole (alone 0) more less (part_to a is start (record {
        productions = good.productions;
        forward_needs = good.forward_needs;
        start_inherits = good.start_inherits;
        forwards = tt;
        forward_equations = tt;
      }));
      forwards = λ p owner left free.
          let (production, at, mine) = first_in p (slice_get a.productions p) refl single owner in
          let bridging : IsBridging a 1 production = record { owner = mine; left = hosts_from p production at left } in
          forwarding_to a is start p production at
          (good.forwards p production at (record { bridging = bridging; not_closed = open_from p production at free }));
      forward_equations = λ p i j owner left has leads.
          let (production, at, mine) = first_in p (slice_get a.productions p) refl single owner in
          let bridging : IsBridging a 1 production = record { owner = mine; left = hosts_from p production at left } in
          let rule = has_rule_from a is start p production at (inherited (made forward) i)
          (defined_more w p (inherited (made forward) i) (alone 0) whole less has) in
          let walk = leads_map (edge_from a is start p production at) (leads_map (edge_more w (alone 0) whole less more p) leads) in
          elim (good.forward_equations p production at bridging i j rule walk) [
            | inl needs ↦ inl (subst (λ z. Contains (w.forward_needs z) j) (sym (left_is a is start p production at))
                (forward_needs_to a is start production.left j needs))
            | inr same ↦ inr same
          ];
    }

    from : IsWellDefinedExtension w 0 → AreWellDefinedAttributes a (Some start) (Some 1)
    from good =
        let plainly = part_from a is start (part_more w (alone 0) whole less more good.part) in
        record {
          productions = plainly.productions;
          forward_needs = plainly.forward_needs;
          start_inherits = plainly.start_inherits;
          forwards = λ p production at must. forwarding_from a is start p production at
              (good.forwards p (owner_is a is start p production at ∙ ap owner_of must.bridging.owner)
              (hosts_to p production at must.bridging.left) (open_to p production at must.not_closed));
          forward_equations = λ p production at bridging i j rule leads.
              let owner = owner_is a is start p production at ∙ ap owner_of bridging.owner in
              let has = defined_more w p (inherited (made forward) i) whole (alone 0) more
              (has_rule_to a is start p production at (inherited (made forward) i) rule) in
              let walk = leads_map (edge_more w whole (alone 0) more less p) (leads_map (edge_to a is start p production at) leads) in
              elim (good.forward_equations p i j owner (hosts_to p production at bridging.left) has walk) [
                | inl needs ↦ inl (forward_needs_from a is start production.left j
                    (subst (λ z. Contains (w.forward_needs z) j) (left_is a is start p production at) needs))
                | inr same ↦ inr same
              ];
        }
