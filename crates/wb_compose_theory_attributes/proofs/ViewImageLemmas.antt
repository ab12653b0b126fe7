-- The part of a world that an owner's part has is the part of the owner's own world, in new numbers.
use Rattle.std.proofs.Common.{◌≡◌, ◌∙◌, ◌≤◌, ℕ, List, Option, Some, None, map, option_map, slice_get, length, refl}
use Rattle.std.proofs.Common.{sym, ap, subst}
use Rattle.wb_lemmas.proofs.Booleans.{and_parts}
use Rattle.wb_lemmas.proofs.Elements.{all_at}
use Rattle.wb_lemmas.proofs.Places.{at_once}
use Rattle.wb_flow_theory.specs.Modular.{IsHosts}
use Rattle.wb_flow_theory.specs.Occurrences.{Goes}
use Rattle.wb_flow_theory.specs.Rules.{IsBelow}
use Rattle.wb_flow_theory.specs.Vertices.{local, forward, Step, child, made, Vertex}
use Rattle.wb_base.specs.declared.symbol.Kind.TheVariants as kind
use Rattle.wb_syntax_resolved.specs.declared.attributes.Attribute.{Attribute}
use Rattle.wb_syntax_resolved.specs.declared.attributes.Direction.{Direction}
use Rattle.wb_syntax_resolved.specs.declared.attributes.Direction.TheVariants.{Synthesized}
use Rattle.wb_syntax_resolved.specs.declared.attributes.Nonterminal.{Nonterminal}
use Rattle.wb_syntax_resolved.specs.declared.attributes.Occurrence.{Occurrence}
use Rattle.wb_syntax_resolved.specs.declared.attribution.AttributionParts.{AttributionParts}
use Rattle.wb_syntax_resolved.specs.declared.equation.Place.TheVariants as place
use Rattle.wb_syntax_resolved.specs.declared.production.ChildKind.TheVariants as child_kind
use Rattle.wb_syntax_resolved.specs.declared.production.Local.{Local}
use Rattle.wb_syntax_resolved.specs.declared.production.Production.{Production}
use Rattle.wb_syntax_resolved.specs.Attribution.{IsAttribution}
use Rattle.wb_syntax_resolved.specs.Expression.{Node}
use Rattle.wb_syntax_resolved.specs.Named.{IsNamedLocal}
use Rattle.wb_syntax_resolved.specs.Owners.{IsOwner}
use Rattle.wb_syntax_resolved.specs.Visible.{owner_of_local, place_owner}
use Rattle.wb_compose_theory_worlds.specs.Attributions.{goes_so, declared_by, needs_of, forward_needs_of, occurrence_at, world_of}
use Rattle.wb_compose_theory_worlds.specs.Worlds.{owner_of, World, Part, part_of, Has, step_owner, IsBelowIn, OccursIn, IsRuleIn}
use Rattle.wb_compose_theory_worlds.proofs.AttributionLemmas.{left_is, owner_is, occurrence_found, forwarding_to, forwarding_from}
use Rattle.wb_compose_theory_worlds.proofs.FoundLemmas.{goes_from, sees_to}
use Rattle.wb_compose_theory_worlds.proofs.NamedLemmas.{IsRuleOf, declares_to, declared_from, source, local_of, place_owner_is}
use Rattle.wb_compose_theory_worlds.proofs.NamedLemmas.{local_owner_is}
use Rattle.wb_compose_theory_worlds.proofs.NamedLemmas.{occurrence_named}
use Rattle.wb_compose_theory_attributes.specs.Images.{ReadsAlike, IsProductionImage, IsImage}
use Rattle.wb_compose_theory_attributes.specs.Numbers.{NumberMap, new_step, new_vertex}
use Rattle.wb_compose_theory_attributes.specs.Rows.{new_owner, new_nonterminal, new_attribute, new_occurrence, new_node}
use Rattle.wb_compose_theory_attributes.specs.Seen.{IsSeenProduction}
use Rattle.wb_compose_theory_attributes.proofs.ExpressionLemmas.{reads_alike}
use Rattle.wb_compose_theory_attributes.proofs.SeenLemmas.{order_once, new_seen, forwards_new, owner_new}
use Rattle.wb_compose_theory_attributes.proofs.UnionNamedLemmas.{row_named}
use Rattle.wb_compose_theory_attributes.proofs.ViewLemmas.{View, number_alone, production_back, local_back}
use Rattle.wb_compose_theory_attributes.proofs.ViewRowLemmas.{below_new, forwards_back, child_back, forward_back, rule_new, rule_back}
use Rattle.wb_compose_theory_attributes.proofs.WorldLemmas.{sees_from, has_alone, there_alone, there_in, writes_of, below_to, below_from}

-- which way an attribute goes, and what flow types of forwards have, in new numbers
direction_new : (t : NumberMap) (k : ℕ) (o : Option Attribute)
    → option_map (λ (r : Attribute). r.direction) (option_map (new_attribute t k) o) ≡ option_map (λ (r : Attribute). r.direction) o
direction_new t k None = refl
direction_new t k (Some r) = refl

forward_needs_new : (t : NumberMap) (k : ℕ) (o : Option Nonterminal)
    → forward_needs_of (option_map (new_nonterminal t k) o) ≡ map t.attribute (forward_needs_of o)
forward_needs_new t k None = refl
forward_needs_new t k (Some r) = refl

module _ (a : AttributionParts) (is : IsAttribution a) (start : ℕ) (first : IsHosts a start) (k : ℕ) (bound : k ≤ length a.extensions)
    (v : View a k) (begin : ℕ) (begins : IsHosts v.s begin) (start_is : v.t.nonterminal begin ≡ start) where
  -- the two worlds and their parts
  abbrev pub small : World
  small = world_of v.s begin

  abbrev pub large : World
  large = world_of a start

  abbrev pub part : Part
  part = part_of (owner_of (number_alone k))

  abbrev pub other : Part
  other = part_of (owner_of k)

  has_new : (owner : ℕ) → Has other (owner_of (new_owner k owner))
  has_new owner = sees_to k (new_owner k owner) (new_seen k owner)

  has_small : (owner : ℕ) → IsOwner v.s.extensions owner → Has part (owner_of owner)
  has_small owner within = has_alone k (length v.s.extensions) owner v.count within

  -- a production of the view, and the one that it is in a
  pub record Row (p : ℕ) : Type 0 where
    pub row : Production
    pub at : slice_get v.s.productions p ≡ Some row
    pub there : Production
    pub at_there : slice_get a.productions (v.t.production p) ≡ Some there
    pub same : IsSeenProduction v.t k p row there

  pub row_at : (p : ℕ) → Has part (small.production_owner p) → Row p
  row_at p has =
      let (row, at) = there_alone k (length v.s.extensions) v.count (slice_get v.s.productions p) has in
      let (there, at_there, same) = v.seen.productions p row at in
      record { row = row; at = at; there = there; at_there = at_there; same = same }

  module _ (p : ℕ) (r : Row p) where
    abbrev q : ℕ
    q = v.t.production p

    pub owner_there : large.production_owner q ≡ owner_of (new_owner k r.row.owner)
    owner_there = owner_is a is start q r.there r.at_there ∙ ap owner_of r.same.owner

    pub owner_here : small.production_owner p ≡ owner_of r.row.owner
    owner_here = owner_is v.s v.is begin p r.row r.at

    has_there : Has other (large.production_owner q)
    has_there = subst (Has other) (sym owner_there) (has_new r.row.owner)

    has_here : Has part (small.production_owner p)
    has_here = subst (Has part) (sym owner_here) (has_small r.row.owner (row_named a k v p r.row r.at).owner)

    place_within : (x : ℕ) (o : Option Local) → slice_get r.row.locals x ≡ o → IsOwner v.s.extensions (owner_of_local r.row o)
    place_within x None at = (row_named a k v p r.row r.at).owner
    place_within x (Some l) at = (all_at (IsNamedLocal v.s r.row) r.row.locals x l (row_named a k v p r.row r.at).locals at).owner

    step_here : (s : Step) → Has part (step_owner small p s)
    step_here (child i) = has_here
    step_here (made (local x)) =
        subst (Has part) (sym (place_owner_is v.s v.is begin begins p r.row r.at x))
        (has_small (place_owner r.row (place.Local x)) (place_within x (slice_get r.row.locals x) refl))
    step_here (made forward) = has_here

    step_there : (s : Step) (m : ℕ) → IsBelow r.row s m → Has other (step_owner large q (new_step v.t p s))
    step_there (child i) m known = has_there
    step_there (made (local x)) m known =
        let owner = owner_new v.t k p r.row r.there r.same (place.Local x) (child_kind.Value (kind.Tree m)) known in
        subst (Has other) (sym (place_owner_is a is start first q r.there r.at_there (v.t.local_in p x) ∙ ap owner_of owner))
        (has_new (place_owner r.row (place.Local x)))
    step_there (made forward) m known = has_there

    below_to_there : (s : Step) (m : ℕ) → IsBelowIn small part p s m → IsBelowIn large other q (new_step v.t p s) (v.t.nonterminal m)
    below_to_there s m (there, has) =
        let known = below_from v.s v.is begin p r.row r.at s m there in (
          below_to a is start q r.there r.at_there (new_step v.t p s) (v.t.nonterminal m)
              (below_new v.t k p r.row r.there r.same s m known),
          step_there s m known,
        )

    -- a tree one step down comes from one
    abbrev Below : Step → ℕ → Type 0
    Below r' n = (s : Step) × (m : ℕ) × IsBelowIn small part p s m × (r' ≡ new_step v.t p s) × (n ≡ v.t.nonterminal m)

    from_row : (r' : Step) (n : ℕ) (s : Step) (m : ℕ) → IsBelow r.row s m → r' ≡ new_step v.t p s → n ≡ v.t.nonterminal m → Below r' n
    from_row r' n s m known step_is n_is = (s, m, (below_to v.s v.is begin p r.row r.at s m known, step_here s), step_is, n_is)

    local_below : (y n : ℕ) → IsBelowIn large other q (made (local y)) n → Below (made (local y)) n
    local_below y n (there, has) =
        let (l, at, tree) = local_of a is start first q r.there r.at_there y n there in
        let owner = local_owner_is a is start first q r.there r.at_there y l at in
        let sees = sees_from k l.owner (subst (Has other) owner has) in
        let (x, from, at_from, y_is, equal) = local_back a k v p r.row r.there r.same y l at sees in
        from_row (made (local y)) n (made (local x)) from.nonterminal
        (ap (option_map (λ (z : Local). child_kind.Value (kind.Tree z.nonterminal))) at_from) (ap (λ z. made (local z)) y_is)
        (sym tree ∙ sym (ap (λ (z : Local). z.nonterminal) equal))

    below_from_there : (r' : Step) (n : ℕ) → IsBelowIn large other q r' n → Below r' n
    below_from_there (child i) n (there, has) =
        let (s, m, known, step_is, n_is) = child_back v.t k p r.row r.there r.same i n
        (below_from a is start q r.there r.at_there (child i) n there) in
        from_row (child i) n s m known step_is n_is
    below_from_there (made (local y)) n known = local_below y n known
    below_from_there (made forward) n (there, has) =
        let (s, m, known, step_is, n_is) = forward_back v.t k p r.row r.there r.same n
        (below_from a is start q r.there r.at_there (made forward) n there) in
        from_row (made forward) n s m known step_is n_is

    -- rules
    rule_to_there : (x : Vertex) (e : List Node) → IsRuleIn small part p x e
        → (f : List Node) × IsRuleIn large other q (new_vertex v.t p x) f × ReadsAlike v.t p e f
    rule_to_there x e (o, has, writes) =
        let from = source v.s v.is begin begins o p x e writes in
        let equal = at_once v.s.productions p from.production r.row from.at r.at in
        let rule = rule_new v.t k p r.row r.there r.same x from.owner e (subst (λ z. IsRuleOf z x from.owner e) equal from.rule) in
        let nodes = map (new_node v.t p) e in
        let written = writes_of a is start q r.there r.at_there (new_vertex v.t p x) (new_owner k from.owner) nodes rule in
        (nodes, (owner_of (new_owner k from.owner), has_new from.owner, written), reads_alike v.t p e)

    rule_from_there : (y : Vertex) (f : List Node) → IsRuleIn large other q y f
        → (x : Vertex) × (e : List Node) × IsRuleIn small part p x e × (y ≡ new_vertex v.t p x) × ReadsAlike v.t p e f
    rule_from_there y f (o, has, writes) =
        let from = source a is start first o q y f writes in
        let equal = at_once a.productions q from.production r.there from.at r.at_there in
        let sees = sees_from k from.owner (subst (Has other) from.same has) in
        let back = rule_back a k v p r.row r.there r.at r.same y from.owner f (subst
        (λ z. IsRuleOf z y from.owner f) equal from.rule) sees in
        let written = writes_of v.s v.is begin p r.row r.at back.vertex back.owner back.nodes back.rule in (
          back.vertex,
          back.nodes,
          (owner_of back.owner, has_small back.owner back.within, written),
          back.vertex_is,
          subst (ReadsAlike v.t p back.nodes) (sym back.nodes_are) (reads_alike v.t p back.nodes),
        )

    pub row_image : IsProductionImage small part large other v.t p
    row_image = record {
      left = left_is a is start q r.there r.at_there ∙ (r.same.left ∙ ap v.t.nonterminal (sym (left_is v.s v.is begin p r.row r.at)));
      below_to = below_to_there;
      below_from = below_from_there;
      rule_to = rule_to_there;
      rule_from = rule_from_there;
      forwards_to = λ f. forwarding_to a is start q r.there r.at_there
          (forwards_new v.t k p r.row r.there r.same (forwarding_from v.s v.is begin p r.row r.at f));
      forwards_from = λ f. forwarding_to v.s v.is begin p r.row r.at
          (forwards_back v.t k p r.row r.there r.same (forwarding_from a is start q r.there r.at_there f));
    }

  -- productions
  production_from : (q : ℕ) → Has other (large.production_owner q)
      → (p : ℕ) × Has part (small.production_owner p) × (q ≡ v.t.production p)
  production_from q has =
      let (there, at) = there_in k (length a.extensions) bound (slice_get a.productions q) has in
      let owner = owner_is a is start q there at in
      let (p, row, at_row, q_is, same) = production_back a k v q there at (sees_from k there.owner (subst (Has other) owner has)) in
      let mine = subst (Has part) (sym (owner_is v.s v.is begin p row at_row)) (has_small row.owner (row_named a k v p row at_row).owner) in
      (p, mine, q_is)

  -- occurrences
  goes_same : (x : ℕ) → option_map (λ (r : Attribute). r.direction) (slice_get a.attributes (v.t.attribute x))
      ≡ option_map (λ (r : Attribute). r.direction) (slice_get v.s.attributes x)
  goes_same x =
      ap (option_map (λ (r : Attribute). r.direction)) (v.seen.attributes x) ∙ direction_new v.t k (slice_get v.s.attributes x)

  occurs_to : (d : Direction) (m x : ℕ) → OccursIn small part d m x → OccursIn large other d (v.t.nonterminal m) (v.t.attribute x)
  occurs_to d m x (o, has, declares) =
      let (r, listed, on, of, owner, at) = declared_from v.s v.is begin begins d o m x declares in
      let (goes, declared) = and_parts (goes_so d (slice_get v.s.attributes x)) (declared_by o (occurrence_at m x v.s.occurrences)) declares in
      let there = goes_same x ∙ goes_from d (slice_get v.s.attributes x) goes in
      let written = declares_to a is start first d (v.t.nonterminal m) (v.t.attribute x) (new_occurrence v.t k r)
      (v.seen.occurrences r listed)
      (ap v.t.nonterminal on, ap v.t.attribute of) there in
      (owner_of (new_owner k r.owner), has_new r.owner, written)

  occurs_from : (d : Direction) (n b : ℕ) → OccursIn large other d n b
      → (m : ℕ) × (x : ℕ) × OccursIn small part d m x × (n ≡ v.t.nonterminal m) × (b ≡ v.t.attribute x)
  occurs_from d n b (o, has, declares) =
      let (r, listed, on, of, owner, at) = declared_from a is start first d o n b declares in
      let (from, there, equal) = v.seen.occurrences_from r listed (sees_from k r.owner (subst (Has other) owner has)) in
      let (goes, declared) = and_parts (goes_so d (slice_get a.attributes b)) (declared_by o (occurrence_at n b a.occurrences)) declares in
      let b_is : b ≡ v.t.attribute from.attribute = of ∙ ap (λ (z : Occurrence). z.attribute) equal in
      let n_is : n ≡ v.t.nonterminal from.nonterminal = on ∙ ap (λ (z : Occurrence). z.nonterminal) equal in
      let goes_there = goes_from d (slice_get a.attributes b) goes in
      let goes_here : Goes v.s d from.attribute = sym (goes_same from.attribute) ∙ subst (Goes a d) b_is goes_there in
      let mine = has_small from.owner (occurrence_named v.s v.is begin begins from there).owner in
      let written = declares_to v.s v.is begin begins d from.nonterminal from.attribute from there (refl, refl) goes_here in
      (from.nonterminal, from.attribute, (owner_of from.owner, mine, written), n_is, b_is)

  needs : (m x : ℕ) → OccursIn small part Synthesized m x
      → large.needs (v.t.nonterminal m) (v.t.attribute x) ≡ map v.t.attribute (small.needs m x)
  needs m x (o, has, declares) =
      let (r, listed, on, of, owner, at) = declared_from v.s v.is begin begins Synthesized o m x declares in
      let found = occurrence_found a is start (v.t.nonterminal m) (v.t.attribute x) (new_occurrence v.t k r) (v.seen.occurrences r listed)
      (ap v.t.nonterminal on, ap v.t.attribute of) in
      ap needs_of found ∙ ap (λ z. map v.t.attribute (needs_of z)) (sym at)

  pub view_image : IsImage small part large other v.t
  view_image = record {
    once = order_once v.t v.seen.order;
    start = sym start_is;
    production_to = λ p has. has_there p (row_at p has);
    production_from = production_from;
    rows = λ p has. row_image p (row_at p has);
    occurs_to = occurs_to;
    occurs_from = occurs_from;
    needs = needs;
    forward_needs = λ m. ap forward_needs_of (v.seen.nonterminals m) ∙ forward_needs_new v.t k (slice_get v.s.nonterminals m);
  }
