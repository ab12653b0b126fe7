-- A vertex of which no edge is left goes off the path, and a group that begins with it is a component.
use Rattle.std.proofs.Common.{◌≡◌, ◌<◌, ◌≤◌, ◌+◌, ◌-◌, ◌⊎◌, ◌++◌, ◌∷◌, [], ℕ, List, Some, None, Contains, length, get_or, slice_get, take}
use Rattle.std.proofs.Common.{drop, inl, inr, sym, ◌∙◌, ap, subst, arith, length-append}
use Rattle.std.proofs.lemmas.Bool.{cases_eq, cases_lt}
use Rattle.std.proofs.lemmas.Grind.{common_steps}
use Rattle.std.proofs.lemmas.Option.{slice_get_within, same_Some, gets}
use Rattle.wb_lemmas.proofs.Members.{contains_at, place_of, contains_push, push_contains, push_contains_last}
use Rattle.wb_lemmas.proofs.Places.{at_push, push_keeps, push_last, at_take, at_drop}
use Rattle.wb_graph.specs.Graphs.{Edge, IsEdge, Walk}
use Rattle.wb_graph.specs.Inner.Groups.{State, IsOpen, IsClosed, IsGrouping, Closes}
use Rattle.wb_graph.specs.Inner.Taking.{IsTaken}
use Rattle.wb_graph.specs.declared.groups.Mark.{Mark}
use Rattle.wb_graph.specs.declared.groups.Mark.TheVariants.{New, Open, Closed}
use Rattle.wb_graph.proofs.GroupLemmas.{one_place, starts_low, open-closed, closed_number}
use Rattle.wb_graph.proofs.Places.{take_keeps}

-- what is at a place is there after an earlier part is dropped
drop_at : (xs : List ℕ) (n k p : ℕ) → n ≤ k → slice_get xs k ≡ Some p → slice_get (drop n xs) (k - n) ≡ Some p
drop_at xs n k p less at = grind (arith, gets, common_steps)

module _ (edges : List Edge) (s : State) (h : IsGrouping edges None s) (rest : List ℕ) (t : ℕ) (is_path : s.path ≡ rest ++ t ∷ [])
    (none_left : get_or s.firsts t 0 ≡ 0) where
  -- the path's last vertex
  last : slice_get s.path (length s.path - 1) ≡ Some t
  last =
      let place : length s.path - 1 ≡ length rest = omega (arith, ap length is_path, length-append rest (t ∷ [])) in
      subst (λ k. slice_get s.path k ≡ Some t) (sym place)
      (subst (λ path. slice_get path (length rest) ≡ Some t) (sym is_path) (push_last rest t))

  -- a vertex of the path is on the rest, or the last
  on_rest : (v k : ℕ) → slice_get s.path k ≡ Some v → (slice_get rest k ≡ Some v) ⊎ ((k ≡ length rest) × (t ≡ v))
  on_rest v k at = at_push rest t v k (subst (λ path. slice_get path k ≡ Some v) is_path at)

  -- a vertex of the rest is on the path
  was_on : (v k : ℕ) → slice_get rest k ≡ Some v → slice_get s.path k ≡ Some v
  was_on v k at = subst (λ path. slice_get path k ≡ Some v) (sym is_path) (push_keeps rest t k v at)

  -- where the last vertex is open
  there : (i : ℕ) × IsOpen s t i
  there = h.on_path.opened t (length s.path - 1) last

  -- a vertex of the rest is open before it
  rest_low : (v k j : ℕ) → slice_get rest k ≡ Some v → IsOpen s v j → j < there.0
  rest_low v k j at on =
      let less : k < length s.path - 1 = (let within = slice_get_within rest k v at in omega
      (arith, ap length is_path, length-append rest (t ∷ []))) in
      h.on_path.rising v t j there.0 k (length s.path - 1) less (was_on v k at) last on there.1

  -- no group begins with it: it goes off the path
  pub goes_off : (start : ℕ) → slice_get s.starts (length s.starts - 1) ≡ Some start → (IsOpen s t start → ⊥) →
      IsGrouping edges None (record s { path = rest })
  goes_off start is_last not_start = record {
    linked = h.linked;
    len = h.len;
    edges_below = h.edges_below;
    fresh = h.fresh;
    marked = record { open_marked = h.marked.open_marked; marked_open = h.marked.marked_open; grouped = h.marked.grouped };
    on_path = record {
      opened = λ v k at. h.on_path.opened v k (was_on v k at);
      rising = λ u v i j k l less at at'. h.on_path.rising u v i j k l less (was_on u k at) (was_on v l at');
      begun = λ p has.
          let (v, on, (k, at)) = h.on_path.begun p has in
          elim (on_rest v k at) [
            | inl before ↦ (v, on, (k, before))
            | inr end ↦
                let here : IsOpen s t p = subst (λ x. IsOpen s x p) (sym end.1) on in
                let place : p ≡ there.0 = one_place edges s h.marked t p there.0 here there.1 in
                let (m, at_m) = place_of s.starts p has in
                let low : start ≤ there.0 = starts_low edges s h.marked h.on_path t there.0 start last there.1
                (contains_at s.starts start (length s.starts - 1) is_last) in
                elim (cases_eq m (length s.starts - 1)) [
                  | inl same ↦
                      let e : p ≡ start = same_Some p start (sym (subst (λ x. slice_get s.starts x ≡ Some p) same at_m) ∙ is_last) in
                      absurd (not_start (subst (λ x. IsOpen s t x) e here))
                  | inr other ↦
                      let within : m < length s.starts = slice_get_within s.starts m p at_m in
                      let more : p < start = h.on_path.starts_rise p start m (length s.starts - 1) (omega arith) at_m is_last in
                      absurd (omega arith)
                ]
          ];
      starts_rise = h.on_path.starts_rise;
      left = λ v i at. elim (h.on_path.left v i at) [
        | inl none_left' ↦ inl none_left'
        | inr on ↦ elim (on_rest v on.0 on.1) [
          | inl before ↦ inr (on.0, before)
          | inr end ↦ inl (subst (λ x. get_or s.firsts x 0 ≡ 0) end.1 none_left)
        ]
      ];
    };
    walks = record { forth = h.walks.forth; back = h.walks.back };
    closed = record { falls = h.closed.falls; walks = h.closed.walks; below = h.closed.below; every = h.closed.every };
    taken = h.taken;
  }

  -- a group begins with it: the group is closed
  module _ (start : ℕ) (starts : List ℕ) (marks : List Mark) (is_starts : s.starts ≡ starts ++ start ∷ []) (begins : IsOpen s t start)
      (closes : Closes (drop start s.opened) (length s.roots) s.marks marks) where
    -- the search after it
    abbrev after : State
    after = record s { marks = marks; opened = take start s.opened; starts = starts; path = rest; roots = s.roots ++ t ∷ [] }

    -- the last vertex is where its group begins
    place : there.0 ≡ start
    place = one_place edges s h.marked t there.0 start there.1 begins

    -- the start is one
    has_start : Contains s.starts start
    has_start = subst (λ xs. Contains xs start) (sym is_starts) (push_contains_last starts start)

    -- a start that is kept was one
    was_start : (p : ℕ) → Contains starts p → Contains s.starts p
    was_start p has = subst (λ xs. Contains xs p) (sym is_starts) (push_contains starts start p has)

    -- a start is kept, or the one of the group
    start_is : (p : ℕ) → Contains s.starts p → Contains starts p ⊎ (p ≡ start)
    start_is p has = elim (contains_push starts start p (subst (λ xs. Contains xs p) is_starts has)) [
      | inl kept ↦ inl kept
      | inr is ↦ inr
          (sym is)
    ]

    -- a start that is kept is before
    start_before : (p : ℕ) → Contains starts p → p < start
    start_before p has =
        let (k, at) = place_of starts p has in
        let within : k < length starts = slice_get_within starts k p at in
        let first : slice_get s.starts k ≡ Some p = subst (λ xs. slice_get xs k ≡ Some p) (sym is_starts)
        (push_keeps starts start k p at) in
        let second : slice_get s.starts (length starts) ≡ Some start = subst (λ xs. slice_get xs (length starts) ≡ Some start)
        (sym is_starts) (push_last starts start) in
        h.on_path.starts_rise p start k (length starts) within first second

    -- what is open after it was open before the start
    was_open : (v j : ℕ) → IsOpen after v j → (j < start) × IsOpen s v j
    was_open v j at = at_take s.opened start j v at

    -- what was open before the start is open
    still_open : (v j : ℕ) → j < start → IsOpen s v j → IsOpen after v j
    still_open v j less at = take_keeps s.opened start j v less at

    -- what was open from the start on is in the group
    in_group : (v j : ℕ) → start ≤ j → IsOpen s v j → Contains (drop start s.opened) v
    in_group v j more at = contains_at (drop start s.opened) v (j - start) (drop_at s.opened start j v more at)

    -- what is in the group was open from the start on
    of_group : (v : ℕ) → Contains (drop start s.opened) v → (j : ℕ) × (start ≤ j) × IsOpen s v j
    of_group v has =
        let (k, at) = place_of (drop start s.opened) v has in
        (start + k, omega arith, at_drop s.opened start k v at)

    -- a vertex of another mark than open isn't in the group
    not_in : (v : ℕ) (m : Mark) → ((i : ℕ) → Some (Open i) ≡ Some m → ⊥) → slice_get s.marks v ≡ Some m → ¬ Contains (drop start s.opened) v
    not_in v m differs at has = let (j, more, on) = of_group v has in differs j (sym (h.marked.open_marked v j on) ∙ at)

    -- what is open before the start isn't in the group
    not_group : (v j : ℕ) → j < start → IsOpen s v j → ¬ Contains (drop start s.opened) v
    not_group v j less at has = let (k, more, on) = of_group v has in let e : j ≡ k = one_place edges s h.marked v j k at on in omega arith

    -- what isn't in the group keeps its mark
    keeps : (v : ℕ) (m : Mark) → (¬ Contains (drop start s.opened) v) → slice_get s.marks v ≡ Some m → slice_get marks v ≡ Some m
    keeps v m out at = elim (closes.each v) [
      | inl inside ↦ absurd (out inside.0)
      | inr outside ↦ outside.1 ∙ at
    ]

    -- a mark that isn't the closing one was there
    had : (v : ℕ) (m : Mark) → (Some (Closed (length s.roots)) ≡ Some m → ⊥) → slice_get marks v ≡ Some m →
        (¬ Contains (drop start s.opened) v) × (slice_get s.marks v ≡ Some m)
    had v m differs at = elim (closes.each v) [
      | inl inside ↦ absurd (differs (sym inside.1 ∙ at))
      | inr outside ↦ (outside.0, sym outside.1 ∙ at)
    ]

    -- what is closed is of the group, or was closed
    closed_is : (v a : ℕ) → slice_get marks v ≡ Some (Closed a) → (((j : ℕ) × (start ≤ j) × IsOpen s v j) × (a ≡ length s.roots)) ⊎
        IsClosed s v a
    closed_is v a at = elim (closes.each v) [
      | inl inside ↦ inl (of_group v inside.0, closed_number a (length s.roots) (sym at ∙ inside.1))
      | inr outside ↦ inr (sym outside.1 ∙ at)
    ]

    -- the group is closed
    group_closed : (v j : ℕ) → start ≤ j → IsOpen s v j → slice_get marks v ≡ Some (Closed (length s.roots))
    group_closed v j more at = elim (closes.each v) [
      | inl inside ↦ inside.1
      | inr outside ↦ absurd (outside.0 (in_group v j more at))
    ]

    -- what was closed is closed
    still_closed : (v a : ℕ) → IsClosed s v a → slice_get marks v ≡ Some (Closed a)
    still_closed v a at = keeps v (Closed a) (not_in v (Closed a) (λ i. open-closed i a) at) at

    -- no edge of the group is left
    group_left : (u j : ℕ) → start ≤ j → IsOpen s u j → get_or s.firsts u 0 ≡ 0
    group_left u j more at = elim (h.on_path.left u j at) [
      | inl none_left' ↦ none_left'
      | inr on ↦ elim (on_rest u on.0 on.1) [
        | inl before ↦ (let low : j < there.0 = rest_low u on.0 j before at in absurd (omega (arith, place)))
        | inr end ↦ subst (λ x. get_or s.firsts x 0 ≡ 0) end.1 none_left
      ]
    ]

    -- an edge of the group leads to a closed vertex, or into the group
    group_falls : (u v j : ℕ) → start ≤ j → IsOpen s u j → IsEdge edges u v → (b : ℕ) × (slice_get marks v ≡ Some (Closed b)) ×
        (b ≤ length s.roots)
    group_falls u v j more at edge =
        let (k, at_k) = place_of edges (u, v) edge in
        let taken : IsTaken edges s.firsts u v = (k, omega (arith, group_left u j more at), at_k) in
        elim (h.taken u v j at taken) [
          | inl leads ↦ elim leads [
            | inl done ↦ (let low : done.0 < length s.roots = h.closed.below v done.0 done.1 in
                (done.0, still_closed v done.0 done.1, omega arith))
            | inr opened ↦ elim (cases_lt opened.0 start) [
              | inl before ↦ (let never : j < start = opened.2 start has_start before in absurd (omega arith))
              | inr within ↦ (length s.roots, group_closed v opened.0 within opened.1, omega arith)
            ]
          ]
          | inr never ↦ cc
        ]

    -- walks lead within the group
    group_walks : (u v j l : ℕ) → start ≤ j → start ≤ l → IsOpen s u j → IsOpen s v l → Walk edges u v
    group_walks u v j l more more' at at' = elim (cases_lt l j) [
      | inl before ↦
          h.walks.back v u l j (omega arith) at' at
          (λ p has far. (let low : p ≤ there.0 = starts_low edges s h.marked h.on_path t there.0 p last there.1 has in absurd
          (omega (arith, place))))
      | inr after' ↦ h.walks.forth u v j l (omega arith) at at'
    ]

    -- the group is a component
    pub closes_group : IsGrouping edges None after
    closes_group = record {
      linked = h.linked;
      len = h.len ∙ sym closes.len;
      edges_below = rw closes.len h.edges_below;
      fresh = λ u v new. h.fresh u v (had u New (λ e. cc) new).1;
      marked = record {
        open_marked = λ v i at. (let (less, on) = was_open v i at in keeps v (Open i) (not_group v i less on)
            (h.marked.open_marked v i on));
        marked_open = λ v i at.
            let (out, was) = had v (Open i) (λ e. cc) at in
            let on : IsOpen s v i = h.marked.marked_open v i was in
            elim (cases_lt i start) [
              | inl less ↦ still_open v i less on
              | inr more ↦ absurd (out (in_group v i more on))
            ];
        grouped = λ v i at.
            let (less, on) = was_open v i at in
            let (p, has, low) = h.marked.grouped v i on in
            elim (start_is p has) [
              | inl kept ↦ (p, kept, low)
              | inr is ↦ absurd (omega arith)
            ];
      };
      on_path = record {
        opened = λ v k at.
            let (j, on) = h.on_path.opened v k (was_on v k at) in
            let low : j < there.0 = rest_low v k j at on in
            (j, still_open v j (omega (arith, place)) on);
        rising = λ u v i j k l less at at' on on'. h.on_path.rising u v i j k l less (was_on u k at) (was_on v l at') (was_open u i on).1
            (was_open v j on').1;
        begun = λ p has.
            let (v, on, (k, at)) = h.on_path.begun p (was_start p has) in
            let low : p < start = start_before p has in
            elim (on_rest v k at) [
              | inl before ↦ (v, still_open v p low on, (k, before))
              | inr end ↦
                  let e : p ≡ there.0 = one_place edges s h.marked t p there.0 (subst (λ x. IsOpen s x p) (sym end.1) on) there.1 in
                  absurd (omega (arith, place))
            ];
        starts_rise = λ p q k l less at at'.
            h.on_path.starts_rise p q k l less
            (subst (λ xs. slice_get xs k ≡ Some p) (sym is_starts) (push_keeps starts start k p at))
            (subst (λ xs. slice_get xs l ≡ Some q) (sym is_starts) (push_keeps starts start l q at'));
        left = λ v i at.
            let (less, on) = was_open v i at in
            elim (h.on_path.left v i on) [
              | inl none_left' ↦ inl none_left'
              | inr on_it ↦ elim (on_rest v on_it.0 on_it.1) [
                | inl before ↦ inr (on_it.0, before)
                | inr end ↦ inl (subst (λ x. get_or s.firsts x 0 ≡ 0) end.1 none_left)
              ]
            ];
      };
      walks = record {
        forth = λ u v i j less at at'. h.walks.forth u v i j less (was_open u i at).1 (was_open v j at').1;
        back = λ u v i j less at at' grouped.
            let (low, on) = was_open v j at' in
            h.walks.back u v i j less (was_open u i at).1 on (λ p has more. elim (start_is p has) [
              | inl kept ↦ grouped p kept more
              | inr is ↦ omega arith
            ]);
      };
      closed = record {
        falls = λ u v a at edge. elim (closed_is u a at) [
          | inl new ↦
              let ((j, more, on), is) = new in
              let (b, there', low) = group_falls u v j more on edge in
              (b, there', omega arith)
          | inr old ↦ (let (b, there', low) = h.closed.falls u v a old edge in (b, still_closed v b there', low))
        ];
        walks = λ u v a at at'. elim (closed_is u a at) [
          | inl new ↦ elim (closed_is v a at') [
            | inl new' ↦ (let ((j, more, on), is) = new in let ((l, more', on'), is') = new' in group_walks u v j l more more' on on')
            | inr old' ↦ (let low : a < length s.roots = h.closed.below v a old' in absurd (omega (arith, new.1)))
          ]
          | inr old ↦ elim (closed_is v a at') [
            | inl new' ↦ (let low : a < length s.roots = h.closed.below u a old in absurd (omega (arith, new'.1)))
            | inr old' ↦ h.closed.walks u v a old old'
          ]
        ];
        below = λ u a at. elim (closed_is u a at) [
          | inl new ↦ omega (arith, new.1, length-append s.roots (t ∷ []))
          | inr old ↦ (let low : a < length s.roots = h.closed.below u a old in omega (arith, length-append s.roots (t ∷ [])))
        ];
        every = λ v a at. elim (at_push s.roots t v a at) [
          | inl before ↦ still_closed v a (h.closed.every v a before)
          | inr end ↦
              let here : IsOpen s v start = subst (λ x. IsOpen s x start) end.1 begins in
              group_closed v start (omega arith) here ∙ ap (λ n. Some (Closed n)) (sym end.0)
        ];
      };
      taken = λ u v i at taken.
          let (less, on) = was_open u i at in
          elim (h.taken u v i on taken) [
            | inl leads ↦ inl (elim leads [
              | inl done ↦ inl (done.0, still_closed v done.0 done.1)
              | inr opened ↦ elim (cases_lt opened.0 start) [
                | inl before ↦ inr (opened.0, still_open v opened.0 before opened.1, λ p has. opened.2 p (was_start p has))
                | inr within ↦ inl (length s.roots, group_closed v opened.0 within opened.1)
              ]
            ])
            | inr never ↦ cc
          ];
    }
