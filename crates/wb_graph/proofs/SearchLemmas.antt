-- Each step of a depth-first search keeps what the search stands for.
use Rattle.std.proofs.Common.{◌≡◌, ◌≢◌, ◌<◌, ◌≤◌, ◌+◌, ◌-◌, ◌⊎◌, ◌++◌, ◌∷◌, [], ℕ, List, Some, All, length, replicate, get_or, set}
use Rattle.std.proofs.Common.{slice_get, inl, inr, sym, ◌∙◌, ap, subst, arith, length-set}
use Rattle.std.proofs.lemmas.Bool.{cases_eq}
use Rattle.std.proofs.lemmas.List.{length-replicate, get_or-replicate}
use Rattle.std.proofs.lemmas.Option.{slice_get_within, get_or_from_slice_get}
use Rattle.wb_graph.specs.Graphs.{Edge, IsEdge, IsEdgeBelow}
use Rattle.wb_graph.specs.Inner.Search.{State, IsSearch, ClosesPath}
use Rattle.wb_graph.specs.Inner.Taking.{IsLinked, IsTaken, NothingTaken, Takes}
use Rattle.wb_graph.specs.declared.search.Colour.{Colour}
use Rattle.wb_graph.specs.declared.search.Colour.TheVariants.{White, Grey, Black}
use Rattle.wb_lemmas.proofs.Places.{at_push, push_keeps, push_last, nothing_at}
use Rattle.wb_graph.proofs.Places.{at_set_same, at_set_other}

-- a vertex of another colour is another vertex
pub other_vertex : (colours : List Colour) (u v : ℕ) (a b : Colour) → (Some a ≡ Some b → ⊥) → slice_get colours u ≡ Some a →
    slice_get colours v ≡ Some b → u ≢ v
other_vertex colours u v a b ne p q e = ne (sym p ∙ ap (slice_get colours) e ∙ q)

-- grey and black differ
pub grey-black : Some Grey ≡ Some Black → ⊥
grey-black e = cc

-- white and grey
pub white-grey : Some White ≡ Some Grey → ⊥
white-grey e = cc

-- white and black
pub white-black : Some White ≡ Some Black → ⊥
white-black e = cc

-- the colour of a vertex after another is coloured
pub kept : (colours : List Colour) (v u : ℕ) (new a : Colour) → u ≢ v → slice_get colours u ≡ Some a →
    slice_get (set colours v new) u ≡ Some a
kept colours v u new a other at = at_set_other colours v u new other ∙ at

-- a vertex with a colour that wasn't just given had it before
pub before : (colours : List Colour) (v u : ℕ) (new a : Colour) → v < length colours → (Some new ≡ Some a → ⊥) →
    slice_get (set colours v new) u ≡ Some a → slice_get colours u ≡ Some a
before colours v u new a within ne at = elim (cases_eq u v) [
  | inl same ↦ absurd (ne (sym (at_set_same colours v new within) ∙ ap (slice_get (set colours v new)) (sym same) ∙ at))
  | inr other ↦ sym (at_set_other colours v u new other) ∙ at
]

-- a taken edge of a vertex whose chain is the same
pub taken_along : (edges : List Edge) (old new : List ℕ) (u v : ℕ) → get_or new u 0 ≡ get_or old u 0 → IsTaken edges new u v →
    IsTaken edges old u v
taken_along edges old new u v e (j, low, at) = (j, subst (λ x. x ≤ j) e low, at)

module _ (edges : List Edge) where
  -- a search begins with every vertex white
  pub started : (count : ℕ) (firsts links : List ℕ) → All (IsEdgeBelow count) edges → IsLinked edges firsts links → length firsts ≡ count →
      NothingTaken edges firsts → IsSearch edges []
      (record { firsts = firsts; links = links; colours = replicate count White; path = []; finished = [] })
  started count firsts links all linked len nothing = record {
    linked = linked;
    len = len ∙ sym (length-replicate count White);
    below = rw (length-replicate count White) all;
    fresh = λ u v _. nothing u v;
    on_path = record {
      grey = λ v i at. cc;
      every = λ v grey. absurd (white-grey (sym (is_white v Grey grey) ∙ grey));
      once = λ v i j at. cc;
      steps = λ u v i at. cc;
      taken = λ u v i at. cc;
    };
    off_path = record {
      black = λ v i at. cc;
      every = λ v black. absurd (white-black (sym (is_white v Black black) ∙ black));
      once = λ v i j at. cc;
      after = λ u v i edge at. cc;
    };
  }
    where
      is_white : (v : ℕ) (a : Colour) → slice_get (replicate count White) v ≡ Some a → slice_get (replicate count White) v ≡ Some White
      is_white v a at =
          let within : v < count = subst (λ n. v < n) (length-replicate count White) (slice_get_within (replicate count White) v a at) in
          at ∙ ap Some (sym (get_or_from_slice_get (replicate count White) v a White at) ∙ get_or-replicate count v White White within)

  module _ (s : State) where
    -- with no edge taken the chains may be written anew
    pub retaken : (firsts links trail : List ℕ) → IsLinked edges firsts links → firsts ≡ s.firsts → IsSearch edges trail s →
        IsSearch edges trail (record s { firsts = firsts; links = links })
    retaken firsts links trail linked e h = record {
      linked = linked;
      len = ap length e ∙ h.len;
      below = h.below;
      fresh = λ u v white taken. h.fresh u v white (taken_along edges s.firsts firsts u v (ap (λ xs. get_or xs u 0) e) taken);
      on_path = record {
        grey = h.on_path.grey;
        every = h.on_path.every;
        once = h.on_path.once;
        steps = h.on_path.steps;
        taken = λ u v i at taken. h.on_path.taken u v i at (taken_along edges s.firsts firsts u v (ap (λ xs. get_or xs u 0) e) taken);
      };
      off_path = record { black = h.off_path.black; every = h.off_path.every; once = h.off_path.once; after = h.off_path.after };
    }

    -- an edge of the path's last vertex is taken: the trail goes on to its end
    pub took : (firsts links : List ℕ) (u v : ℕ) → IsLinked edges firsts links → length firsts ≡ length s.firsts →
        slice_get s.path (length s.path - 1) ≡ Some u → Takes edges s.firsts firsts u v → IsSearch edges s.path s →
        IsSearch edges (s.path ++ v ∷ []) (record s { firsts = firsts; links = links })
    took firsts links u v linked len last takes h = record {
      linked = linked;
      len = len ∙ h.len;
      below = h.below;
      fresh = λ t w white taken.
          let other : t ≢ u = other_vertex s.colours t u White Grey white-grey white (h.on_path.grey u (length s.path - 1) last) in
          h.fresh t w white (taken_along edges s.firsts firsts t w (takes.others t other) taken);
      on_path = record {
        grey = h.on_path.grey;
        every = h.on_path.every;
        once = h.on_path.once;
        steps = h.on_path.steps;
        taken = λ t w i at taken. elim (cases_eq t u) [
          | inl same ↦
              elim (takes.here w (subst (λ x. IsTaken edges firsts x w) same taken)) [
                | inl old ↦ further i w (h.on_path.taken t w i at (subst (λ x. IsTaken edges s.firsts x w) (sym same) old))
                | inr is ↦
                    let last_place : i ≡ length s.path - 1 = h.on_path.once u i (length s.path - 1)
                    (subst (λ x. slice_get s.path i ≡ Some x) same at) last in
                    let within : i < length s.path = slice_get_within s.path i t at in
                    let place : length s.path ≡ i + 1 = omega arith in
                    inr (subst (λ n. slice_get (s.path ++ v ∷ []) n ≡ Some w) place (push_last s.path v ∙ ap Some (sym is)))
              ]
          | inr other ↦ further i w (h.on_path.taken t w i at (taken_along edges s.firsts firsts t w (takes.others t other) taken))
        ];
      };
      off_path = record { black = h.off_path.black; every = h.off_path.every; once = h.off_path.once; after = h.off_path.after };
    }
      where
        further : (i w : ℕ) → (slice_get s.colours w ≡ Some Black) ⊎ (slice_get s.path (i + 1) ≡ Some w) →
            (slice_get s.colours w ≡ Some Black) ⊎ (slice_get (s.path ++ v ∷ []) (i + 1) ≡ Some w)
        further i w (inl black) = inl black
        further i w (inr next) = inr (push_keeps s.path v (i + 1) w next)

    -- with no vertex on the path the trail may be any
    pub retrailed : (trail trail' : List ℕ) → s.path ≡ [] → IsSearch edges trail s → IsSearch edges trail' s
    retrailed trail trail' e h = record {
      linked = h.linked;
      len = h.len;
      below = h.below;
      fresh = h.fresh;
      on_path = record {
        grey = h.on_path.grey;
        every = h.on_path.every;
        once = h.on_path.once;
        steps = h.on_path.steps;
        taken = λ u v i at. absurd (nothing_at u i (subst (λ path. slice_get path i ≡ Some u) e at));
      };
      off_path = h.off_path;
    }

    -- the trail led to a finished vertex
    pub passed : (v : ℕ) → slice_get s.colours v ≡ Some Black → IsSearch edges (s.path ++ v ∷ []) s → IsSearch edges s.path s
    passed v black h = record {
      linked = h.linked;
      len = h.len;
      below = h.below;
      fresh = h.fresh;
      on_path = record {
        grey = h.on_path.grey;
        every = h.on_path.every;
        once = h.on_path.once;
        steps = h.on_path.steps;
        taken = λ u w i at taken. shorter i w (h.on_path.taken u w i at taken);
      };
      off_path = h.off_path;
    }
      where
        shorter : (i w : ℕ) → (slice_get s.colours w ≡ Some Black) ⊎ (slice_get (s.path ++ v ∷ []) (i + 1) ≡ Some w) →
            (slice_get s.colours w ≡ Some Black) ⊎ (slice_get s.path (i + 1) ≡ Some w)
        shorter i w (inl done) = inl done
        shorter i w (inr next) = elim (at_push s.path v w (i + 1) next) [
          | inl on ↦ inr on
          | inr (_, is) ↦ inl (subst (λ x. slice_get s.colours x ≡ Some Black) is black)
        ]

    -- a white vertex is put on the path, at the end of the trail
    pub entered : (v : ℕ) → slice_get s.colours v ≡ Some White →
        ((u : ℕ) → slice_get s.path (length s.path - 1) ≡ Some u → IsEdge edges u v) → IsSearch edges (s.path ++ v ∷ []) s →
        IsSearch edges (s.path ++ v ∷ []) (record s { colours = set s.colours v Grey; path = s.path ++ v ∷ [] })
    entered v white leads h = record {
      linked = h.linked;
      len = h.len ∙ sym (length-set s.colours v Grey);
      below = rw (length-set s.colours v Grey) h.below;
      fresh = λ u w at. h.fresh u w (before s.colours v u Grey White within (λ e. white-grey (sym e)) at);
      on_path = record {
        grey = λ u i at. grey u (at_push s.path v u i at);
        every = λ u at. every u at;
        once = λ u i j at at'. once u i j (at_push s.path v u i at) (at_push s.path v u j at');
        steps = λ u w i at at'. steps u w i (at_push s.path v u i at) (at_push s.path v w (i + 1) at');
        taken = λ u w i at taken. further i w (taken_on u w i (at_push s.path v u i at) taken);
      };
      off_path = record {
        black = λ u i at.
            let black = h.off_path.black u i at in
            kept s.colours v u Grey Black (λ e. other_vertex s.colours v u White Black white-black white black (sym e)) black;
        every = λ u at. h.off_path.every u (before s.colours v u Grey Black within grey-black at);
        once = h.off_path.once;
        after = h.off_path.after;
      };
    }
      where
        within : v < length s.colours
        within = slice_get_within s.colours v White white

        apart : (u i : ℕ) → slice_get s.path i ≡ Some u → u ≢ v
        apart u i at e = other_vertex s.colours v u White Grey white-grey white (h.on_path.grey u i at) (sym e)

        grey : (u : ℕ) {i : ℕ} → (slice_get s.path i ≡ Some u) ⊎ ((i ≡ length s.path) × (v ≡ u)) →
            slice_get (set s.colours v Grey) u ≡ Some Grey
        grey u {i} (inl at) = kept s.colours v u Grey Grey (apart u i at) (h.on_path.grey u i at)
        grey u (inr (_, is)) = subst (λ x. slice_get (set s.colours v Grey) x ≡ Some Grey) is (at_set_same s.colours v Grey within)

        every : (u : ℕ) → slice_get (set s.colours v Grey) u ≡ Some Grey → (i : ℕ) × (slice_get (s.path ++ v ∷ []) i ≡ Some u)
        every u at = elim (cases_eq u v) [
          | inl same ↦ (length s.path, push_last s.path v ∙ ap Some (sym same))
          | inr other ↦
              let (i, on) = h.on_path.every u (sym (at_set_other s.colours v u Grey other) ∙ at) in (i, push_keeps s.path v i u on)
        ]

        once : (u i j : ℕ) → (slice_get s.path i ≡ Some u) ⊎ ((i ≡ length s.path) × (v ≡ u)) → (slice_get s.path j ≡ Some u) ⊎
            ((j ≡ length s.path) × (v ≡ u)) → i ≡ j
        once u i j (inl at) (inl at') = h.on_path.once u i j at at'
        once u i j (inl at) (inr (_, is)) = absurd (apart u i at (sym is))
        once u i j (inr (_, is)) (inl at') = absurd (apart u j at' (sym is))
        once u i j (inr (e, _)) (inr (e', _)) = e ∙ sym e'

        steps : (u w i : ℕ) → (slice_get s.path i ≡ Some u) ⊎ ((i ≡ length s.path) × (v ≡ u)) → (slice_get s.path (i + 1) ≡ Some w) ⊎
            ((i + 1 ≡ length s.path) × (v ≡ w)) → IsEdge edges u w
        steps u w i (inl at) (inl at') = h.on_path.steps u w i at at'
        steps u w i (inl at) (inr (e, is)) =
            let place : i ≡ length s.path - 1 = omega arith in
            subst (IsEdge edges u) is (leads u (subst (λ n. slice_get s.path n ≡ Some u) place at))
        steps u w i (inr (e, _)) (inl at') = let past : i + 1 < length s.path = slice_get_within s.path (i + 1) w at' in
            absurd (omega arith)
        steps u w i (inr (e, _)) (inr (e', _)) = absurd (omega arith)

        taken_on : (u w i : ℕ) → (slice_get s.path i ≡ Some u) ⊎ ((i ≡ length s.path) × (v ≡ u)) → IsTaken edges s.firsts u w →
            (slice_get s.colours w ≡ Some Black) ⊎ (slice_get (s.path ++ v ∷ []) (i + 1) ≡ Some w)
        taken_on u w i (inl at) taken = h.on_path.taken u w i at taken
        taken_on u w i (inr (_, is)) taken = absurd (h.fresh v w white (subst (λ x. IsTaken edges s.firsts x w) (sym is) taken))

        further : (i w : ℕ) → (slice_get s.colours w ≡ Some Black) ⊎ (slice_get (s.path ++ v ∷ []) (i + 1) ≡ Some w) →
            (slice_get (set s.colours v Grey) w ≡ Some Black) ⊎ (slice_get (s.path ++ v ∷ []) (i + 1) ≡ Some w)
        further i w (inl black) = inl (kept s.colours v w Grey Black
            (λ e. other_vertex s.colours v w White Black white-black white black (sym e)) black)
        further i w (inr next) = inr next

    -- an edge from the path's last vertex to a grey one closes the path
    pub closes : (trail : List ℕ) (v : ℕ) → slice_get s.colours v ≡ Some Grey →
        ((u : ℕ) → slice_get s.path (length s.path - 1) ≡ Some u → IsEdge edges u v) → IsSearch edges trail s → ClosesPath edges s.path v
    closes trail v grey leads h = record {
      on_path = h.on_path.every v grey;
      steps = h.on_path.steps;
      closes = leads;
      once = h.on_path.once;
    }
