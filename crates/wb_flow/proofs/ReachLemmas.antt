-- What the sets of a flow graph's vertices say of walks, and how sets of attributes are made.
use Rattle.std.proofs.Common.{◌≡◌, ◌<◌, ◌≤◌, ◌+◌, ◌∙◌, ◌⊎◌, inl, inr, ℕ, Bool, true, false, List, Some}
use Rattle.std.proofs.Common.{All, Contains, length, refl, sym, ap, subst}
use Rattle.std.proofs.Common.{slice_get, arith, replicate, length-set, true≢false}
use Rattle.std.specs.Prelude.{◌↔◌, Option, None, IfSome, IfNone, is_some, slice_set}
use Rattle.std.proofs.lemmas.List.{length-replicate}
use Rattle.std.proofs.lemmas.Option.{slice_get_within}
use Rattle.wb_base.specs.Different.{Differ}
use Rattle.wb_graph.specs.Components.{ComponentsView, AreComponents}
use Rattle.wb_graph.specs.Graphs.{Edge, IsEdgeBelow, Walk}
use Rattle.wb_lemmas.proofs.Members.{contains_at, place_of}
use Rattle.wb_lemmas.proofs.Places.{at_once, at_within}
use Rattle.wb_flow_theory.specs.Occurrences.{Goes}
use Rattle.wb_flow.specs.declared.reach.TopReach.{TopReach}
use Rattle.wb_flow.specs.declared.vertex.FlowGraph.{FlowGraph}
use Rattle.wb_flow.specs.declared.vertex.Vertex.{Vertex}
use Rattle.wb_flow.specs.declared.vertex.Vertex.TheVariants as code
use Rattle.wb_flow.specs.Tops.{IsTop, KnowsTops, IsSelection, AddsSelected, HasSet, IsBeyond}
use Rattle.wb_flow.specs.Inner.Adding.{SomeOf}
use Rattle.wb_flow.specs.Adding.{Adds}
use Rattle.wb_flow.specs.Inner.Closing.{IsOutsideAt, IsSelectionBefore}
use Rattle.wb_flow.specs.ReachSets.{set_at}
use Rattle.wb_flow.proofs.AddingLemmas.{below_or, adds_as}
use Rattle.wb_syntax_resolved.specs.declared.attributes.Direction.TheVariants.{Inherited}
use Rattle.wb_syntax_resolved.specs.declared.attribution.AttributionParts.{AttributionParts}
use Rattle.wb_termset.specs.Sets.{IsMember, IsSubset}
use Rattle.wb_termset.proofs.CallerLemmas.{has_or_not, IsEmpty-replicate, IsSubset-insert, IsMember-insert_same, IsMember-insert}

-- a walk of zero or more edges leads from the vertex at this place to this inherited attribute of the top
abbrev pub LeadsToTop : AttributionParts → FlowGraph → ℕ → ℕ → Type 0
LeadsToTop a graph place i = Goes a Inherited i
    × ((k : ℕ) × (slice_get graph.vertices k ≡ Some (code.Top i)) × Walk graph.edges place k)

module _ (a : AttributionParts) (graph : FlowGraph) (reach : TopReach) (knows : KnowsTops a graph reach) (place : ℕ) where
  -- a vertex has a set
  pub has_set : place < length graph.vertices → HasSet reach place
  has_set within =
      let (c, at) = at_within reach.components.numbers place (subst (λ n. place < n) (sym knows.components.len) within) in
      let below = knows.components.below place c at in
      record {
        component = c;
        at = at;
        within = subst (λ n. c < n) (sym knows.sets.sizes.len) below;
        len = knows.sets.sizes.each c below;
      }

  module _ (P : ℕ → Type 0) (set : List Bool) (selected : IsSelection reach P set) where
    -- what the vertex' set has and the other set hasn't is reached, and it doesn't hold for it
    pub beyond_leads : (i : ℕ) → IsBeyond reach place set i → LeadsToTop a graph place i × ¬ P i
    beyond_leads i beyond =
        let (listed, (j, same, goes)) = (knows.tops (code.Top i)).0 (contains_at reach.tops (code.Top i) beyond.number beyond.top) in
        let equal : j ≡ i = cc in
        let (k, there, walk) = (knows.sets.each place beyond.component beyond.number (code.Top i) beyond.at beyond.top).0 beyond.has in (
          (subst (Goes a Inherited) equal goes, (k, there, walk)),
          (λ holds. beyond.lacks ((selected.each beyond.number i beyond.top).1 holds)),
        )

    -- where the set has all, it holds for all that is reached
    pub none_beyond : place < length graph.vertices → ((i : ℕ) → ¬ IsBeyond reach place set i) → (i : ℕ) → LeadsToTop a graph place i → P i
    none_beyond within none i (goes, (k, there, walk)) =
        let listed = contains_at graph.vertices (code.Top i) k there in
        let (r, top) = place_of reach.tops (code.Top i) ((knows.tops (code.Top i)).1 (listed, (i, refl, goes))) in
        let (c, at) = at_within reach.components.numbers place (subst (λ n. place < n) (sym knows.components.len) within) in
        let has = (knows.sets.each place c r (code.Top i) at top).1 (k, there, walk) in
        elim (has_or_not set r) [
          | inl member ↦ (selected.each r i top).0 member
          | inr lacks ↦ absurd (none i (record { component = c; number = r; at = at; top = top; has = has; lacks = lacks }))
        ]

-- no attribute is in a new set
pub selection_start : (reach : TopReach) (listed : List ℕ) (set : List Bool) → set ≡ replicate (length reach.tops) false
    → IsSelectionBefore reach.tops listed set 0
selection_start reach listed set same = record {
  len = ap (λ (z : List Bool). length z) same ∙ length-replicate (length reach.tops) false;
  each = λ r. (
    (λ has. absurd (IsEmpty-replicate (length reach.tops) r (subst (λ z. IsMember z r) same has))),
    (λ (k, i, lt, at, top). absurd (omega (arith, lt))),
  );
}

-- one attribute more
pub selection_more : (reach : TopReach) (listed : List ℕ) (old new : List Bool) (count i : ℕ) → slice_get listed count ≡ Some i
    → IsSelectionBefore reach.tops listed old count → AddsSelected reach i old new → IsSelectionBefore reach.tops listed new (count + 1)
selection_more reach listed old new count i at before adds = record {
  len = adds.len ∙ before.len;
  each = λ r. (
    (λ has. elim ((adds.each r).0 has) [
      | inl own ↦ (let (k, j, lt, there, top) = (before.each r).0 own in (k, j, (omega (arith, lt)), there, top))
      | inr top ↦ (count, i, (omega arith), at, top)
    ]),
    (λ (k, j, lt, there, top). (adds.each r).1 (elim (below_or k count lt) [
      | inl low ↦ inl ((before.each r).1 (k, j, low, there, top))
      | inr last ↦ (
          let same : j ≡ i = at_once listed count j i (subst (λ z. slice_get listed z ≡ Some j) last there) at in
          inr (subst (λ z. slice_get reach.tops r ≡ Some (code.Top z)) same top)
          )
    ])),
  );
}

-- after all
pub selection_end : (reach : TopReach) (listed : List ℕ) (set : List Bool) (count : ℕ) → length listed ≤ count
    → IsSelectionBefore reach.tops listed set count → IsSelection reach (Contains listed) set
selection_end reach listed set count ended all = record {
  len = all.len;
  each = λ r i top. (
    (λ has.
        let (k, j, lt, there, other) = (all.each r).0 has in
        let both = at_once reach.tops r (code.Top j) (code.Top i) other top in
        let same : j ≡ i = cc in
        subst (Contains listed) same (contains_at listed j k there)),
    (λ has.
        let (k, there) = place_of listed i has in
        let within = slice_get_within listed k i there in
        (all.each r).1 (k, i, (omega (arith, within, ended)), there, top)),
  );
}

-- a number that is added to a set
pub adds_selected : (reach : TopReach) (attribute number : ℕ) (old : List Bool) → Differ reach.tops → length old ≡ length reach.tops
    → slice_get reach.tops number ≡ Some (code.Top attribute) → (new : List Bool) → new ≡ slice_set old number true
    → AddsSelected reach attribute old new
adds_selected reach attribute number old differ len at new is = record {
  len = ap (λ (z : List Bool). length z) is ∙ length-set old number true;
  each = λ r. (
    (λ has. elim (IsMember-insert old number r (subst (λ z. IsMember z r) is has)) [
      | inl own ↦ inl own
      | inr equal ↦ inr (subst (λ z. slice_get reach.tops z ≡ Some (code.Top attribute)) (sym equal) at)
    ]),
    (λ either. subst (λ z. IsMember z r) (sym is) (elim either [
      | inl own ↦ IsSubset-insert old number r own
      | inr top ↦ (
          let equal = differ (code.Top attribute) number r at top in
          let within = slice_get_within reach.tops number (code.Top attribute) at in
          subst (λ z. IsMember (slice_set old number true) z) equal
          (IsMember-insert_same old number (subst (λ n. number < n) (sym len) within))
          )
    ])),
  );
}

-- nothing is added
pub adds_nothing : (reach : TopReach) (attribute : ℕ) (set : List Bool) → ¬ Contains reach.tops (code.Top attribute)
    → AddsSelected reach attribute set set
adds_nothing reach attribute set lacks = record {
  len = refl;
  each = λ r. (
    (λ has. inl has),
    (λ either. elim either [
      | inl own ↦ own
      | inr top ↦ absurd (lacks (contains_at reach.tops (code.Top attribute) r top))
    ]),
  );
}

-- the graph's lists by other names
module _ (vertices slice : List Vertex) (same : slice ≡ vertices) (edges read : List Edge) (equal : read ≡ edges) where
  pub below_in : All (IsEdgeBelow (length vertices)) edges → All (IsEdgeBelow (length slice)) read
  below_in below =
      subst (λ (z : List Vertex). All (IsEdgeBelow (length z)) read) (sym same)
      (subst (λ (z : List Edge). All (IsEdgeBelow (length vertices)) z) (sym equal) below)

  pub components_in : (components : ComponentsView) → AreComponents (length slice) read components
      → AreComponents (length vertices) edges components
  components_in components are =
      subst (λ (z : List Vertex). AreComponents (length z) edges components) same
      (subst (λ (z : List Edge). AreComponents (length slice) z components) equal are)

-- the inherited attribute of the top that a vertex is
abbrev pub IsTopOf : AttributionParts → Vertex → Vertex → Type 0
IsTopOf a vertex added = (added ≡ vertex) × IsTop a added

pub tops_are : (a : AttributionParts) (vertices tops : List Vertex)
    → ((v : Vertex) → Contains tops v ↔ SomeOf vertices (IsTopOf a) v) → (v : Vertex) → Contains tops v ↔ (Contains vertices v × IsTop a v)
tops_are a vertices tops some v = (
  (λ has. let (vertex, listed, (same, is)) = (some v).0 has in (subst (Contains vertices) (sym same) listed, is)),
  (λ (listed, is). (some v).1 (v, listed, (refl, is))),
)

-- a selection by other words
pub selection_as : (reach : TopReach) (P Q : ℕ → Type 0) (set : List Bool) → ((i : ℕ) → P i ↔ Q i) → IsSelection reach P set
    → IsSelection reach Q set
selection_as reach P Q set same selected = record {
  len = selected.len;
  each = λ r i top. (
    (λ has. (same i).0 ((selected.each r i top).0 has)),
    (λ holds. (selected.each r i top).1 ((same i).1 holds)),
  );
}

-- a selection with one attribute more
pub selection_with : (reach : TopReach) (P : ℕ → Type 0) (x : ℕ) (old new : List Bool) → IsSelection reach P old
    → AddsSelected reach x old new → IsSelection reach (λ i. P i ⊎ (i ≡ x)) new
selection_with reach P x old new selected adds = record {
  len = adds.len ∙ selected.len;
  each = λ r i top. (
    (λ has. elim ((adds.each r).0 has) [
      | inl own ↦ inl ((selected.each r i top).0 own)
      | inr other ↦ (
          let both = at_once reach.tops r (code.Top i) (code.Top x) top other in
          let same : i ≡ x = cc in
          inr same
          )
    ]),
    (λ either. (adds.each r).1 (elim either [
      | inl holds ↦ inl ((selected.each r i top).1 holds)
      | inr same ↦ inr (subst (λ z. slice_get reach.tops r ≡ Some (code.Top z)) same top)
    ])),
  );
}

module _ (reach : TopReach) (place c : ℕ) (at : slice_get reach.components.numbers place ≡ Some c) (set allowed : List Bool)
    (is : set ≡ set_at reach.sets.items c) where
  -- where the other set has all, nothing is beyond
  pub subset_none : IsSubset set allowed → (i : ℕ) → ¬ IsBeyond reach place allowed i
  subset_none within i beyond =
      let same : beyond.component ≡ c = at_once reach.components.numbers place beyond.component c beyond.at at in
      beyond.lacks (within beyond.number (subst (λ z. IsMember z beyond.number) (sym is)
      (subst (λ k. IsMember (set_at reach.sets.items k) beyond.number) same beyond.has)))

  -- what is at a number is beyond
  pub outside_some : (number : ℕ) (found : Option ℕ) → IfSome found (IsOutsideAt reach.tops set allowed number)
      → IfSome found (IsBeyond reach place allowed)
  outside_some number None outside = tt
  outside_some number (Some i) outside = record {
    component = c;
    number = number;
    at = at;
    top = outside.top;
    has = subst (λ z. IsMember z number) is outside.has;
    lacks = outside.lacks;
  }

  -- where nothing is at any number, nothing is beyond
  pub outside_none : (count : ℕ) → length reach.tops ≤ count → ((k i : ℕ) → k < count → ¬ IsOutsideAt reach.tops set allowed k i) → (i : ℕ)
      → ¬ IsBeyond reach place allowed i
  outside_none count ended none i beyond =
      let same : beyond.component ≡ c = at_once reach.components.numbers place beyond.component c beyond.at at in
      let within = slice_get_within reach.tops beyond.number (code.Top i) beyond.top in
      none beyond.number i (omega (arith, within, ended)) (record {
        top = beyond.top;
        has = subst (λ z. IsMember z beyond.number) (sym is)
            (subst (λ k. IsMember (set_at reach.sets.items k) beyond.number) same beyond.has);
        lacks = beyond.lacks;
      })

-- one number more at which nothing is
pub outside_more : (tops : List Vertex) (set allowed : List Bool) (number : ℕ) (found : Option ℕ) → is_some found ≡ false
    → IfNone found ((i : ℕ) → ¬ IsOutsideAt tops set allowed number i) → ((k i : ℕ) → k < number → ¬ IsOutsideAt tops set allowed k i)
    → (k i : ℕ) → k < number + 1 → ¬ IsOutsideAt tops set allowed k i
outside_more tops set allowed number (Some x) empty none before k i lt = absurd (true≢false empty)
outside_more tops set allowed number None empty none before k i lt = elim (below_or k number lt) [
  | inl low ↦ before k i low
  | inr last ↦ subst (λ z. ¬ IsOutsideAt tops set allowed z i) (sym last) (none i)
]

-- a vertex that is an inherited attribute of the top is added as one
pub adds_top : (a : AttributionParts) (vertex : Vertex) (i : ℕ) → vertex ≡ code.Top i → Goes a Inherited i → (old new : List Vertex)
    → Adds old new (λ v. v ≡ code.Top i) → Adds old new (IsTopOf a vertex)
adds_top a vertex i is goes old new = adds_as old new (λ v. v ≡ code.Top i) (IsTopOf a vertex) (λ v. (
  (λ same. (same ∙ sym is, (i, same, goes))),
  (λ both. both.0 ∙ is),
))

-- where there is an answer, nothing is said of none
pub some_none : {X : Type 0} (P : Type 0) (answer : Option X) → is_some answer ≡ true → IfNone answer P
some_none P None empty = absurd (cc)
some_none P (Some x) empty = tt
