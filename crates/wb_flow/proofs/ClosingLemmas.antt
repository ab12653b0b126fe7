-- Sets that steps enlarge: what a join adds, what all joins in their order add, and what that says of walks between vertices.
use Rattle.std.proofs.Common.{◌≡◌, ◌≢◌, ◌<◌, ◌≤◌, ◌+◌, ◌∙◌, ◌++◌, ◌∷◌, [], inl, inr, ℕ, Bool, List}
use Rattle.std.proofs.Common.{Some, All, Contains, length, refl, sym, subst}
use Rattle.std.proofs.Common.{slice_get, arith, get_or, ap}
use Rattle.std.specs.List.Sorted.{IsNonDecreasingBy}
use Rattle.std.proofs.lemmas.Bool.{cases_eq}
use Rattle.std.proofs.lemmas.Option.{slice_get_within}
use Rattle.wb_graph.specs.Components.{ComponentsView, AreComponents}
use Rattle.wb_graph.specs.Graphs.{Edge, IsEdge, IsEdgeBelow, Walk}
use Rattle.wb_graph.specs.Graphs.Walk.{stay, step}
use Rattle.wb_graph.proofs.CallerLemmas.{walk_on}
use Rattle.wb_lemmas.proofs.Elements.{all_contained}
use Rattle.wb_lemmas.proofs.Members.{contains_at, place_of}
use Rattle.wb_lemmas.proofs.Places.{at_once, at_within, default_at}
use Rattle.wb_termset.specs.Sets.{IsMember, IsSubset}
use Rattle.wb_termset.proofs.CallerLemmas.{IsUnion-left, IsUnion-right}
use Rattle.wb_flow.specs.declared.vertex.Vertex.{Vertex}
use Rattle.wb_flow.specs.Adding.{Adds}
use Rattle.wb_flow.specs.Inner.Closing.{AreEven, AreFalling, AreJoined, IsClosing, AreClosed, AreClosedOver, AreStarts}
use Rattle.wb_flow.specs.ReachSets.{set_at}
use Rattle.wb_flow.specs.Inner.Closing.{IsStepOf, AreStepsOf}
use Rattle.wb_flow.specs.ReachSets.{AreReachSets}
use Rattle.wb_flow.proofs.AddingLemmas.{below_or, adds_none, adds_one, adds_as}

-- no join yet
pub closing_start : (steps : List Edge) (sets : List (List Bool)) → IsClosing steps sets sets 0
closing_start steps sets = record {
  len = refl;
  lens = λ c. refl;
  grows = λ c n has. has;
  sound = λ c r has. (c, stay c refl, has);
  closed = λ j s lt at. absurd (omega (arith, lt));
}

module _ (steps : List Edge) (size : ℕ) (falls : AreFalling size steps) (rising : IsNonDecreasingBy (λ (s : Edge). s.0) steps)
    (old cur new : List (List Bool)) (count m n : ℕ) (at : slice_get steps count ≡ Some (m, n)) (before : IsClosing steps old cur count)
    (joined : AreJoined m n cur new) where
  -- the step is one of them, and leads down
  edge : IsEdge steps m n
  edge = contains_at steps (m, n) count at

  down : n < m
  down = (falls (m, n) edge).0

  -- each set has what it had
  kept : (c : ℕ) → IsSubset (set_at cur c) (set_at new c)
  kept c r has = elim (cases_eq c m) [
    | inl same ↦ subst (λ k. IsMember (set_at new k) r) (sym same)
        (IsUnion-left (set_at cur m) (set_at cur n) (set_at new m) joined.union r (subst (λ k. IsMember (set_at cur k) r) same has))
    | inr other ↦ subst (λ z. IsMember z r) (sym (joined.others c other)) has
  ]

  -- a number before that of a step that was taken isn't where this one leads from
  earlier : (j p q : ℕ) → j < count → slice_get steps j ≡ Some (p, q) → q ≢ m
  earlier j p q lt there same =
      let low : q < p = (falls (p, q) (contains_at steps (p, q) j there)).0 in
      let within = slice_get_within steps count (m, n) at in
      let rises = rising j count (p, q) (omega (arith, lt)) within in
      let first = default_at steps j (p, q) (p, q) there in
      let second = default_at steps count (p, q) (m, n) at in
      let le : p ≤ m = subst (λ (z : Edge). p ≤ z.0) second (subst (λ (z : Edge). z.0 ≤ (get_or steps count (p, q)).0) first rises) in
      omega (arith, low, le, same)

  more_lens : (c : ℕ) → length (set_at new c) ≡ length (set_at old c)
  more_lens c = elim (cases_eq c m) [
    | inl same ↦ subst (λ k. length (set_at new k) ≡ length (set_at old k)) (sym same) (joined.union.len ∙ before.lens m)
    | inr other ↦ subst (λ (z : List Bool). length z ≡ length (set_at old c)) (sym (joined.others c other)) (before.lens c)
  ]

  more_sound : (c r : ℕ) → IsMember (set_at new c) r → (d : ℕ) × Walk steps c d × IsMember (set_at old d) r
  more_sound c r has = elim (cases_eq c m) [
    | inl same ↦ elim ((joined.union.each r).0 (subst (λ k. IsMember (set_at new k) r) same has)) [
      | inl own ↦ before.sound c r (subst (λ k. IsMember (set_at cur k) r) (sym same) own)
      | inr from ↦ (
          let (d, walk, start) = before.sound n r from in
          (d, subst (λ k. Walk steps k d) (sym same) (walk_on steps m n d (step m n (stay m refl) edge) walk), start)
          )
    ]
    | inr other ↦ before.sound c r (subst (λ z. IsMember z r) (joined.others c other) has)
  ]

  more_closed : (j p q : ℕ) → j < count + 1 → slice_get steps j ≡ Some (p, q) → IsSubset (set_at new q) (set_at new p)
  more_closed j p q lt there r has = elim (below_or j count lt) [
    | inl low ↦ kept p r (before.closed j (p, q) low there r
        (subst (λ z. IsMember z r) (joined.others q (earlier j p q low there)) has))
    | inr last ↦ (
        let lower : n ≢ m = (λ (e : n ≡ m). omega (arith, down, e)) in
        let same : (p, q) ≡ (m, n) = at_once steps count (p, q) (m, n) (subst (λ k. slice_get steps k ≡ Some (p, q)) last there) at in
        let go : IsMember (set_at new n) r → IsMember (set_at new m) r =
        (λ own. IsUnion-right (set_at cur m) (set_at cur n) (set_at new m) joined.union r
        (subst (λ z. IsMember z r) (joined.others n lower) own)) in
        subst (λ (z : Edge). IsMember (set_at new z.1) r → IsMember (set_at new z.0) r) (sym same) go has
        )
  ]

  closed_at : (j : ℕ) (s : Edge) → j < count + 1 → slice_get steps j ≡ Some s → IsSubset (set_at new s.1) (set_at new s.0)
  closed_at j (p, q) lt there = more_closed j p q lt there

  -- one join more
  pub closing_more : IsClosing steps old new (count + 1)
  closing_more = record {
    len = joined.len ∙ before.len;
    lens = more_lens;
    grows = λ c r has. kept c r (before.grows c r has);
    sound = more_sound;
    closed = closed_at;
  }

module _ (steps : List Edge) (old new : List (List Bool)) (count : ℕ) (ended : length steps ≤ count)
    (all : IsClosing steps old new count) where
  -- along a walk members are handed back
  walk_subset : (c d : ℕ) → Walk steps c d → IsSubset (set_at new d) (set_at new c)
  walk_subset c d (stay _ same) r has = subst (λ k. IsMember (set_at new k) r) (sym same) has
  walk_subset c d (step e _ walk edge) r has =
      let (j, at) = place_of steps (e, d) edge in
      let within = slice_get_within steps j (e, d) at in
      walk_subset c e walk r (all.closed j (e, d) (omega (arith, within, ended)) at r has)

  -- after all joins
  pub closing_end : AreClosed steps old new
  closing_end = record {
    len = all.len;
    lens = all.lens;
    each = λ c r. (
      (λ has. all.sound c r has),
      (λ (d, walk, start). walk_subset c d walk r (all.grows d r start)),
    );
  }

module _ (count : ℕ) (edges : List Edge) (components : ComponentsView) (are : AreComponents count edges components)
    (below : All (IsEdgeBelow count) edges) (steps : List Edge) (of_edges : AreStepsOf edges components steps) where
  -- the component of a vertex
  component_of : (u : ℕ) → u < count → (c : ℕ) × (slice_get components.numbers u ≡ Some c)
  component_of u within = at_within components.numbers u (subst (λ k. u < k) (sym are.len) within)

  -- the ends of a step's edge
  ends : (e s : Edge) → Contains edges e → IsStepOf components e s → (x : ℕ) × (y : ℕ) × IsEdge edges x y
      × (slice_get components.numbers x ≡ Some s.0) × (slice_get components.numbers y ≡ Some s.1) × (s.0 ≢ s.1)
  ends (x, y) s edge (from, to, other) = (x, y, edge, from, to, other)

  -- steps lead down
  pub steps_fall : AreFalling (length components.roots) steps
  steps_fall s listed =
      let (e, has, is) = (of_edges.each s).0 listed in
      let (x, y, edge, from, to, other) = ends e s has is in
      let low = are.falls x y s.0 s.1 edge from to in
      let within = are.below x s.0 from in
      ((omega (arith, low, other)), within)

  -- between vertices of components to which steps lead in a row there are walks
  walk_between : (c d : ℕ) → Walk steps c d → (u w : ℕ) → slice_get components.numbers u ≡ Some c
      → slice_get components.numbers w ≡ Some d → Walk edges u w
  walk_between c d (stay _ same) u w at there = ((are.exact u w c d at there).0 same).0
  walk_between c d (step e _ walk listed) u w at there =
      let (f, has, is) = (of_edges.each (e, d)).0 listed in
      let (x, y, edge, from, to, other) = ends f (e, d) has is in
      let first = walk_between c e walk u x at from in
      let last = ((are.exact y w d d to there).0 refl).0 in
      walk_on edges u y w (step x y first edge) last

  -- a walk leads through components by steps
  steps_between : (u w : ℕ) → Walk edges u w → (c d : ℕ) → slice_get components.numbers u ≡ Some c
      → slice_get components.numbers w ≡ Some d → Walk steps c d
  steps_between u w (stay _ same) c d at there =
      stay d (at_once components.numbers w c d (subst (λ k. slice_get components.numbers k ≡ Some c) same at) there)
  steps_between u w (step x _ walk edge) c d at there =
      let (e, through) = component_of x (all_contained (IsEdgeBelow count) edges (x, w) below edge).0 in
      let first = steps_between u x walk c e at through in
      elim (cases_eq e d) [
        | inl same ↦ subst (λ k. Walk steps c k) same first
        | inr other ↦ step e d first ((of_edges.each (e, d)).1 ((x, w), edge, (through, there, other)))
      ]

  module _ (vertices tops : List Vertex) (len : length vertices ≡ count) (old new : List (List Bool))
      (starts : AreStarts vertices tops components old) (closed : AreClosed steps old new) where
    -- so sets have what walks reach
    pub reach_sets : AreReachSets vertices tops edges components new
    reach_sets = record {
      sizes = record {
        len = closed.len ∙ starts.sizes.len;
        each = λ c within. closed.lens c ∙ starts.sizes.each c within;
      };
      each = λ u c r v at top. (
        (λ has.
            let (d, walk, start) = (closed.each c r).0 has in
            let (place, is) = (starts.each d r).0 start in
            let same = at_once tops r is.vertex v is.top top in
            (place, subst (λ z. slice_get vertices place ≡ Some z) same is.at, walk_between c d walk u place at is.component)),
        (λ (place, there, walk).
            let within = slice_get_within vertices place v there in
            let (d, component) = component_of place (subst (λ k. place < k) len within) in
            (closed.each c r).1 (
              d,
              steps_between u place walk c d at component,
              (starts.each d r).1 (place, record { vertex = v; at = there; top = top; component = component }),
            )),
      );
    }

-- the same, by a step that is one value
pub closing_more_at : (steps : List Edge) (size : ℕ) → AreFalling size steps → IsNonDecreasingBy (λ (s : Edge). s.0) steps
    → (old cur new : List (List Bool)) (count : ℕ) (s : Edge) → slice_get steps count ≡ Some s → IsClosing steps old cur count
    → AreJoined s.0 s.1 cur new → IsClosing steps old new (count + 1)
closing_more_at steps size falls rising old cur new count (m, n) at before joined =
    closing_more steps size falls rising old cur new count m n at before joined

-- sets stay even
pub even_then : (steps : List Edge) (old cur : List (List Bool)) (count : ℕ) → AreEven old → IsClosing steps old cur count → (s : Edge)
    → s.1 < s.0 → s.0 < length old → length (set_at cur s.0) ≡ length (set_at cur s.1)
even_then steps old cur count even now s low within =
    now.lens s.0 ∙ even s.0 s.1 within (omega (arith, low, within)) ∙ sym (now.lens s.1)

-- sets by other names of the lists
pub reach_by : (vertices slice : List Vertex) → slice ≡ vertices → (edges read : List Edge) → read ≡ edges → (tops : List Vertex)
    (components : ComponentsView) → AreComponents (length vertices) edges components → All (IsEdgeBelow (length vertices)) edges
    → (old new : List (List Bool)) → AreStarts slice tops components old → AreClosedOver read components old new
    → AreReachSets vertices tops edges components new
reach_by vertices slice same edges read equal tops components are below old new starts (steps, of_edges, closed) =
    reach_sets (length vertices) edges components are below steps (subst (λ z. AreStepsOf z components steps) equal of_edges) vertices tops
    refl old new (subst (λ z. AreStarts z tops components old) same starts) closed

-- a step between two components is that of its edge
pub step_added : (components : ComponentsView) (e : Edge) (m n : ℕ) → slice_get components.numbers e.0 ≡ Some m
    → slice_get components.numbers e.1 ≡ Some n → (xs ys : List Edge) → Adds xs ys (λ s. (s ≡ (m, n)) × (m ≢ n))
    → Adds xs ys (IsStepOf components e)
step_added components e m n from to xs ys = adds_as xs ys (λ s. (s ≡ (m, n)) × (m ≢ n)) (IsStepOf components e) (λ s. (
  (λ (same, other). subst (λ (z : Edge). IsStepOf components e z) (sym same) (from, to, other)),
  (λ is. back s is),
)) where
  back : (s : Edge) → IsStepOf components e s → (s ≡ (m, n)) × (m ≢ n)
  back (p, q) (at, there, other) =
      let first : p ≡ m = at_once components.numbers e.0 p m at from in
      let second : q ≡ n = at_once components.numbers e.1 q n there to in (
        ap (λ z. (z, q)) first ∙ ap (λ z. (m, z)) second,
        (λ same. other (first ∙ same ∙ sym second)),
      )

-- where both are the same, nothing is added
pub no_step : (xs : List Edge) (m n : ℕ) → m ≡ n → Adds xs xs (λ s. (s ≡ (m, n)) × (m ≢ n))
no_step xs m n same = adds_none xs (λ s. (s ≡ (m, n)) × (m ≢ n)) (λ s (is, other). other same)

-- else one is
pub one_step : (xs ys : List Edge) (m n : ℕ) → m ≢ n → ys ≡ xs ++ (m, n) ∷ [] → Adds xs ys (λ s. (s ≡ (m, n)) × (m ≢ n))
one_step xs ys m n other is = adds_as xs ys (λ s. s ≡ (m, n)) (λ s. (s ≡ (m, n)) × (m ≢ n))
    (λ s. ((λ same. (same, other)), (λ both. both.0))) (adds_one xs ys (m, n) is)
