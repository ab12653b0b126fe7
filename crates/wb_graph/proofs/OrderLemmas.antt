-- A search that met every vertex gives an order, and a path that closes gives a cycle.
use Rattle.std.proofs.Common.{◌≡◌, ◌<◌, ◌+◌, ◌-◌, ℕ, List, [], Some, length, get_or, slice_get, drop, sym, ◌∙◌, subst, arith, length-drop}
use Rattle.std.proofs.lemmas.List.Elements.{All-from_get_or}
use Rattle.std.proofs.lemmas.Option.{slice_get_within, slice_get-get_or, same_Some}
use Rattle.wb_graph.specs.Graphs.{Edge, IsEdge}
use Rattle.wb_graph.specs.Orders.{IsOrder, IsCycle, IsSimpleCycle}
use Rattle.wb_graph.specs.Inner.Search.{State, IsSearch, ClosesPath}
use Rattle.wb_graph.specs.declared.search.Colour.{Colour}
use Rattle.wb_graph.specs.declared.search.Colour.TheVariants.{White, Grey, Black}
use Rattle.wb_lemmas.proofs.Members.{contains_at}
use Rattle.wb_lemmas.proofs.Places.{at_drop, nothing_at}

-- the rest of a closed path, from the vertex that it leads back to
pub closed_cycle : (edges : List Edge) (path : List ℕ) (v i : ℕ) → ClosesPath edges path v → slice_get path i ≡ Some v →
    IsCycle edges (drop i path)
closed_cycle edges path v i h at =
    let within : i < length path = slice_get_within path i v at in
    let len : length (drop i path) ≡ length path - i = length-drop i path in
    record {
      nonempty = omega arith;
      next = λ k u w at' next.
          let place : i + (k + 1) ≡ i + k + 1 = omega arith in
          h.steps u w (i + k) (at_drop path i k u at') (subst (λ n. slice_get path n ≡ Some w) place (at_drop path i (k + 1) w next));
      closes = λ u w last first.
          let place : i + (length (drop i path) - 1) ≡ length path - 1 = omega arith in
          let start : i + 0 ≡ i = omega arith in
          let is : w ≡ v = same_Some w v (sym (subst (λ n. slice_get path n ≡ Some w) start (at_drop path i 0 w first)) ∙ at) in
          subst (IsEdge edges u) (sym is) (h.closes u
          (subst (λ n. slice_get path n ≡ Some u) place (at_drop path i (length (drop i path) - 1) u last)));
    }

-- and it has each vertex once
pub simple_cycle : (edges : List Edge) (path : List ℕ) (v i : ℕ) → ClosesPath edges path v → slice_get path i ≡ Some v →
    IsSimpleCycle edges (drop i path)
simple_cycle edges path v i h at = record {
  cycle_is = closed_cycle edges path v i h at;
  once = λ u j k at_j at_k. (let same : i + j ≡ i + k = h.once u (i + j) (i + k) (at_drop path i j u at_j) (at_drop path i k u at_k) in
      omega arith);
}

-- the finished vertices are an order, once no vertex is left
pub searched_order : (edges : List Edge) (trail : List ℕ) (s : State) → IsSearch edges trail s → s.path ≡ [] →
    ((v : ℕ) → v < length s.colours → ¬ (slice_get s.colours v ≡ Some White)) → IsOrder (length s.colours) edges s.finished
searched_order edges trail s h empty met = record {
  below = All-from_get_or (λ v. v < length s.colours) s.finished 0
      (λ i less. slice_get_within s.colours (get_or s.finished i 0) Black
      (h.off_path.black (get_or s.finished i 0) i (slice_get-get_or s.finished i 0 less)));
  every = λ v less. let (i, at) = h.off_path.every v (black v less) in contains_at s.finished v i at;
  once = h.off_path.once;
  after = h.off_path.after;
}
  where
    coloured : (v : ℕ) (colour : Colour) → slice_get s.colours v ≡ Some colour → v < length s.colours → slice_get s.colours v ≡ Some Black
    coloured v White at less = absurd (met v less at)
    coloured v Grey at less = let (i, on) = h.on_path.every v at in
        absurd (nothing_at v i (subst (λ path. slice_get path i ≡ Some v) empty on))
    coloured v Black at less = at

    black : (v : ℕ) → v < length s.colours → slice_get s.colours v ≡ Some Black
    black v less = coloured v (get_or s.colours v White) (slice_get-get_or s.colours v White less) less
