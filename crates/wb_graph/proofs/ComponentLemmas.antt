-- A search that has met every vertex, with none on its path, has closed the strongly connected components.
use Rattle.std.proofs.Common.{◌≡◌, ◌<◌, ◌≤◌, [], ℕ, List, Some, None, All, length, slice_get, sym, ◌∙◌, ap, subst, arith}
use Rattle.std.proofs.lemmas.Option.{slice_get_within}
use Rattle.wb_lemmas.proofs.Elements.{all_from_places}
use Rattle.wb_lemmas.proofs.Places.{at_within}
use Rattle.wb_graph.specs.Components.{AreComponents}
use Rattle.wb_graph.specs.Graphs.{Edge, Walk, stay, step}
use Rattle.wb_graph.specs.Inner.Groups.{State, IsClosed, IsGrouping, IsClosedMark, AreNumbers}
use Rattle.wb_graph.specs.declared.groups.Mark.{Mark}
use Rattle.wb_graph.specs.declared.groups.Mark.TheVariants.{New, Open, Closed}
use Rattle.wb_graph.proofs.StepLemmas.{none_open}

module _ (edges : List Edge) (s : State) (h : IsGrouping edges None s) (empty : s.path ≡ [])
    (met : (v : ℕ) → v < length s.marks → ¬ (slice_get s.marks v ≡ Some New)) where
  -- a mark is a closed one
  closed_mark : (v : ℕ) (m : Mark) → slice_get s.marks v ≡ Some m → IsClosedMark m
  closed_mark v New at = absurd (met v (slice_get_within s.marks v New at) at)
  closed_mark v (Open i) at = absurd (none_open edges s h empty v i (h.marked.marked_open v i at))
  closed_mark v (Closed a) at = tt

  -- each mark is
  pub all_closed : All IsClosedMark s.marks
  all_closed = all_from_places IsClosedMark s.marks closed_mark

  -- along a walk components don't rise
  walk_falls : (u v a : ℕ) → IsClosed s u a → Walk edges u v → (b : ℕ) × IsClosed s v b × (b ≤ a)
  walk_falls u v a at (stay _ same) = (a, subst (λ x. IsClosed s x a) same at, omega arith)
  walk_falls u v a at (step w _ walk edge) =
      let (b, there, low) = walk_falls u w a at walk in
      let (c, there', low') = h.closed.falls w v b there edge in
      (c, there', omega arith)

  -- a closed vertex has one number
  one_number : (v a b : ℕ) → IsClosed s v a → IsClosed s v b → a ≡ b
  one_number v a b first second = let same : Some (Closed a) ≡ Some (Closed b) = sym first ∙ second in cc

  -- the numbers are those of the strongly connected components
  pub are_components : (count : ℕ) (numbers : List ℕ) → length s.marks ≡ count → AreNumbers numbers s.marks →
      AreComponents count edges (record { numbers = numbers; roots = s.roots })
  are_components count numbers len are = record {
    len = are.len ∙ len;
    below = λ v n at. h.closed.below v n (are.each v n at);
    every = λ v n at.
        let closed : IsClosed s v n = h.closed.every v n at in
        let within : v < length numbers = (let inside = slice_get_within s.marks v (Closed n) closed in omega (arith, are.len)) in
        let (m, there) = at_within numbers v within in
        there ∙ ap Some (one_number v m n (are.each v m there) closed);
    exact = λ u v m n at at'. (
      λ same. (
        h.closed.walks u v m (are.each u m at) (subst (λ k. IsClosed s v k) (sym same) (are.each v n at')),
        h.closed.walks v u m (subst (λ k. IsClosed s v k) (sym same) (are.each v n at')) (are.each u m at),
      ),
      λ both.
          let (b, there, low) = walk_falls u v m (are.each u m at) both.0 in
          let (c, there', low') = walk_falls v u n (are.each v n at') both.1 in
          let first : b ≡ n = one_number v b n there (are.each v n at') in
          let second : c ≡ m = one_number u c m there' (are.each u m at) in
          omega arith,
    );
    falls = λ u v m n edge at at'.
        let (b, there, low) = h.closed.falls u v m (are.each u m at) edge in
        let same : b ≡ n = one_number v b n there (are.each v n at') in
        omega arith;
  }
