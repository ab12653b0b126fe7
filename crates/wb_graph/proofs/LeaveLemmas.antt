-- A search that finishes the last vertex of its path keeps what it stands for.
use Rattle.std.proofs.Common.{◌≡◌, ◌≢◌, ◌<◌, ◌+◌, ◌⊎◌, ◌++◌, ◌∷◌, [], ℕ, List, Some, length, get_or, set, slice_get, inl, inr, sym, ◌∙◌, ap}
use Rattle.std.proofs.Common.{subst, arith, length-set, length-append}
use Rattle.std.proofs.lemmas.Bool.{cases_eq}
use Rattle.std.proofs.lemmas.Option.{slice_get_within}
use Rattle.wb_graph.specs.Graphs.{Edge, IsEdge}
use Rattle.wb_graph.specs.Inner.Search.{State, IsSearch}
use Rattle.wb_graph.specs.Inner.Taking.{IsTaken}
use Rattle.wb_graph.specs.declared.search.Colour.TheVariants.{White, Grey, Black}
use Rattle.wb_lemmas.proofs.Places.{at_push, push_keeps, push_last}
use Rattle.wb_lemmas.proofs.Members.{place_of}
use Rattle.wb_graph.proofs.Places.{at_set_same, at_set_other}
use Rattle.wb_graph.proofs.SearchLemmas.{grey-black, white-black, kept, before}

module _ (edges : List Edge) (s : State) where
  -- the path's last vertex, with all its edges taken, is finished
  pub left : (front : List ℕ) (v : ℕ) → s.path ≡ front ++ v ∷ [] → get_or s.firsts v 0 ≡ 0 → IsSearch edges s.path s →
      IsSearch edges front (record s { colours = set s.colours v Black; path = front; finished = s.finished ++ v ∷ [] })
  left front v e all h = record {
    linked = h.linked;
    len = h.len ∙ sym (length-set s.colours v Black);
    below = rw (length-set s.colours v Black) h.below;
    fresh = λ u w at. h.fresh u w (before s.colours v u Black White within (λ e. white-black (sym e)) at);
    on_path = record {
      grey = λ u i at. kept s.colours v u Black Grey (apart u i at) (h.on_path.grey u i (on u i at));
      every = λ u at.
          let (i, at') = h.on_path.every u (before s.colours v u Black Grey within (λ e. grey-black (sym e)) at) in
          (i, off u i at (at_push front v u i (subst (λ path. slice_get path i ≡ Some u) e at')));
      once = λ u i j at at'. h.on_path.once u i j (on u i at) (on u j at');
      steps = λ u w i at at'. h.on_path.steps u w i (on u i at) (on w (i + 1) at');
      taken = λ u w i at taken. nearer i w (h.on_path.taken u w i (on u i at) taken);
    };
    off_path = record {
      black = λ u i at. black u i (at_push s.finished v u i at);
      every = λ u at. elim (cases_eq u v) [
        | inl same ↦ (length s.finished, push_last s.finished v ∙ ap Some (sym same))
        | inr other ↦ let (i, at') = h.off_path.every u (sym (at_set_other s.colours v u Black other) ∙ at) in
            (i, push_keeps s.finished v i u at')
      ];
      once = λ u i j at at'. once u i j (at_push s.finished v u i at) (at_push s.finished v u j at');
      after = λ u w i edge at. comes_after u w i edge (at_push s.finished v u i at);
    };
  }
    where
      on : (u i : ℕ) → slice_get front i ≡ Some u → slice_get s.path i ≡ Some u
      on u i at = subst (λ path. slice_get path i ≡ Some u) (sym e) (push_keeps front v i u at)

      last : slice_get s.path (length front) ≡ Some v
      last = subst (λ path. slice_get path (length front) ≡ Some v) (sym e) (push_last front v)

      is_grey : slice_get s.colours v ≡ Some Grey
      is_grey = h.on_path.grey v (length front) last

      within : v < length s.colours
      within = slice_get_within s.colours v Grey is_grey

      apart : (u i : ℕ) → slice_get front i ≡ Some u → u ≢ v
      apart u i at same =
          let place : i ≡ length front = h.on_path.once v i (length front)
          (subst (λ x. slice_get s.path i ≡ Some x) same (on u i at)) last in
          let less : i < length front = slice_get_within front i u at in
          omega arith

      off : (u i : ℕ) → slice_get (set s.colours v Black) u ≡ Some Grey → (slice_get front i ≡ Some u) ⊎ ((i ≡ length front) × (v ≡ u)) →
          slice_get front i ≡ Some u
      off u i grey (inl at) = at
      off u i grey (inr (_, is)) = absurd (grey-black
          (sym grey ∙ subst (λ x. slice_get (set s.colours v Black) x ≡ Some Black) is (at_set_same s.colours v Black within)))

      blacken : (w : ℕ) → slice_get s.colours w ≡ Some Black → slice_get (set s.colours v Black) w ≡ Some Black
      blacken w black = elim (cases_eq w v) [
        | inl same ↦ rw same (at_set_same s.colours v Black within)
        | inr other ↦ kept s.colours v w Black Black other black
      ]

      nearer : (i w : ℕ) → (slice_get s.colours w ≡ Some Black) ⊎ (slice_get s.path (i + 1) ≡ Some w) →
          (slice_get (set s.colours v Black) w ≡ Some Black) ⊎ (slice_get front (i + 1) ≡ Some w)
      nearer i w (inl black) = inl (blacken w black)
      nearer i w (inr next) = elim (at_push front v w (i + 1) (subst (λ path. slice_get path (i + 1) ≡ Some w) e next)) [
        | inl at ↦ inr at
        | inr (_, is) ↦ inl (subst (λ x. slice_get (set s.colours v Black) x ≡ Some Black) is (at_set_same s.colours v Black within))
      ]

      black : (u i : ℕ) → (slice_get s.finished i ≡ Some u) ⊎ ((i ≡ length s.finished) × (v ≡ u)) →
          slice_get (set s.colours v Black) u ≡ Some Black
      black u i (inl at) = blacken u (h.off_path.black u i at)
      black u i (inr (_, is)) = subst (λ x. slice_get (set s.colours v Black) x ≡ Some Black) is (at_set_same s.colours v Black within)

      new : (u i : ℕ) → slice_get s.finished i ≡ Some u → v ≡ u → ⊥
      new u i at is = grey-black (sym is_grey ∙ ap (slice_get s.colours) is ∙ h.off_path.black u i at)

      once : (u i j : ℕ) → (slice_get s.finished i ≡ Some u) ⊎ ((i ≡ length s.finished) × (v ≡ u)) → (slice_get s.finished j ≡ Some u) ⊎
          ((j ≡ length s.finished) × (v ≡ u)) → i ≡ j
      once u i j (inl at) (inl at') = h.off_path.once u i j at at'
      once u i j (inl at) (inr (_, is)) = absurd (new u i at is)
      once u i j (inr (_, is)) (inl at') = absurd (new u j at' is)
      once u i j (inr (p, _)) (inr (q, _)) = p ∙ sym q

      -- every edge of the vertex was taken, and leads to a finished vertex
      ends : (w : ℕ) → (slice_get s.colours w ≡ Some Black) ⊎ (slice_get s.path (length front + 1) ≡ Some w) → (j : ℕ) ×
          (slice_get s.finished j ≡ Some w)
      ends w (inl at) = h.off_path.every w at
      ends w (inr next) =
          let past : length front + 1 < length s.path = slice_get_within s.path (length front + 1) w next in
          absurd (omega (arith, ap length e, length-append front (v ∷ [])))

      comes_after : (u w i : ℕ) → IsEdge edges u w → (slice_get s.finished i ≡ Some u) ⊎ ((i ≡ length s.finished) × (v ≡ u)) → (j : ℕ) ×
          (j < i) × (slice_get (s.finished ++ v ∷ []) j ≡ Some w)
      comes_after u w i edge (inl at) = let (j, less, at') = h.off_path.after u w i edge at in (j, less, push_keeps s.finished v j w at')
      comes_after u w i edge (inr (place, is)) =
          let (k, at) = place_of edges (v, w) (subst (λ x. IsEdge edges x w) (sym is) edge) in
          let taken : IsTaken edges s.firsts v w = (k, omega (arith, all), at) in
          let (j, at') = ends w (h.on_path.taken v w (length front) last taken) in
          let less : j < length s.finished = slice_get_within s.finished j w at' in
          (j, omega arith, push_keeps s.finished v j w at')
