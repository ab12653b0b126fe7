-- Each step of a worklist keeps what the worklist stands for, and a worklist that is done has reached what walks reach.
use Rattle.std.proofs.Common.{◌≡◌, ◌<◌, ◌≤◌, ◌+◌, ◌-◌, ◌*◌, ◌⊎◌, ◌++◌, ◌∷◌, [], ℕ, Bool, true, false, List, Some, None, All, Contains}
use Rattle.std.proofs.Common.{length, replicate, get_or, slice_get, inl, inr, refl, sym, ◌∙◌, ap, subst, arith, length-set, length-append}
use Rattle.std.proofs.Common.{get_or-set_same, get_or-set_other}
use Rattle.std.specs.List.{sum}
use Rattle.std.proofs.lemmas.Bool.{cases_eq, cases_lt, true≢false}
use Rattle.std.proofs.lemmas.List.{length-replicate, get_or-replicate, get_or_past}
use Rattle.std.proofs.lemmas.Option.{same_Some}
use Rattle.wb_graph.specs.Graphs.{Edge, IsEdge, IsEdgeBelow, Walk, IsReached, AreReached}
use Rattle.wb_graph.specs.Graphs.Walk.{stay, step}
use Rattle.wb_graph.specs.Inner.Worklist.{State, marked, IsMarked, IsReaching, IsWorklist, AdvancesTo}
use Rattle.wb_graph.specs.Inner.Taking.{IsLinked, IsTaken, NothingTaken, Takes}
use Rattle.wb_lemmas.proofs.Places.{at_push, push_keeps, push_last, nothing_at}
use Rattle.wb_lemmas.proofs.Members.{place_of}
use Rattle.wb_graph.proofs.CallerLemmas.{reached_on, reached_start}
use Rattle.wb_graph.proofs.SearchLemmas.{taken_along}
use Rattle.wb_graph.proofs.TakingLemmas.{edge_below}

-- no flag of a new list is set
unmarked : (count v : ℕ) → get_or (replicate count false) v false ≡ true → ⊥
unmarked count v on = elim (cases_lt v count) [
  | inl within ↦ true≢false (sym on ∙ get_or-replicate count v false false within)
  | inr past ↦ true≢false (sym on ∙ get_or_past (replicate count false) v false
      (subst (λ n. n ≤ v) (sym (length-replicate count false)) past))
]

-- a flag that is set is in the list
pub marked_within : (reached : List Bool) (v : ℕ) → get_or reached v false ≡ true → v < length reached
marked_within reached v on = elim (cases_lt v (length reached)) [
  | inl within ↦ within
  | inr past ↦ absurd (true≢false (sym on ∙ get_or_past reached v false past))
]

module _ (edges : List Edge) where
  -- a worklist begins with no vertex reached
  pub begun : (count : ℕ) (firsts links : List ℕ) → All (IsEdgeBelow count) edges → IsLinked edges firsts links → length firsts ≡ count →
      NothingTaken edges firsts → IsWorklist edges None
      (record { firsts = firsts; links = links; reached = replicate count false; waiting = [] })
  begun count firsts links all linked len nothing = record {
    linked = linked;
    len = len ∙ sym (length-replicate count false);
    below = rw (length-replicate count false) all;
    waits = λ v i at. cc;
    left = λ v on. absurd (unmarked count v on);
    taken = λ u v taken. absurd (nothing u v taken);
  }

  -- a worklist without a target may have any
  pub aimed : (s : State) (v : ℕ) → IsWorklist edges None s → IsWorklist edges (Some v) s
  aimed s v h = record {
    linked = h.linked;
    len = h.len;
    below = h.below;
    waits = h.waits;
    left = h.left;
    taken = λ u w taken. elim (h.taken u w taken) [
      | inl on ↦ inl on
      | inr e ↦ cc
    ];
  }

  module _ (s : State) (v : ℕ) where
    -- a vertex that is reached was reached, or is the one that was marked
    pub marked_is : (b : Bool) (w : ℕ) → IsMarked (marked s v b) w → IsMarked s w ⊎ (w ≡ v)
    marked_is true w on = inl on
    marked_is false w on = elim (cases_eq w v) [
      | inl same ↦ inr same
      | inr other ↦ inl (sym (get_or-set_other s.reached v w true false other) ∙ on)
    ]

    -- the vertex that was marked is reached
    pub marked_at : (b : Bool) → get_or s.reached v false ≡ b → v < length s.reached → IsMarked (marked s v b) v
    marked_at true e within = e
    marked_at false e within = get_or-set_same s.reached v true false within

    -- and so are those that were
    pub marked_keeps : (b : Bool) → get_or s.reached v false ≡ b → v < length s.reached → (w : ℕ) → IsMarked s w → IsMarked (marked s v b) w
    marked_keeps true e within w on = on
    marked_keeps false e within w on = elim (cases_eq w v) [
      | inl same ↦ rw same (get_or-set_same s.reached v true false within)
      | inr other ↦ get_or-set_other s.reached v w true false other ∙ on
    ]

    pub marked_len : (b : Bool) → length (marked s v b).reached ≡ length s.reached
    marked_len true = refl
    marked_len false = length-set s.reached v true

    -- the target is marked
    pub marked_worklist : (b : Bool) → get_or s.reached v false ≡ b → v < length s.reached → IsWorklist edges (Some v) s →
        IsWorklist edges None (marked s v b)
    marked_worklist true e within h = record {
      linked = h.linked;
      len = h.len;
      below = h.below;
      waits = h.waits;
      left = h.left;
      taken = λ u w taken. elim (h.taken u w taken) [
        | inl on ↦ inl on
        | inr is ↦ inl (subst (IsMarked s) (same_Some v w is) e)
      ];
    }
    marked_worklist false e within h = record {
      linked = h.linked;
      len = h.len ∙ sym (length-set s.reached v true);
      below = rw (length-set s.reached v true) h.below;
      waits = λ w i at. elim (at_push s.waiting v w i at) [
        | inl old ↦ marked_keeps false e within w (h.waits w i old)
        | inr (_, is) ↦ subst (IsMarked (marked s v false)) is (marked_at false e within)
      ];
      left = λ w on. elim (marked_is false w on) [
        | inl old ↦ elim (h.left w old) [
          | inl all ↦ inl all
          | inr (i, at) ↦ inr (i, push_keeps s.waiting v i w at)
        ]
        | inr same ↦ inr (length s.waiting, push_last s.waiting v ∙ ap Some (sym same))
      ];
      taken = λ u w taken. elim (h.taken u w taken) [
        | inl on ↦ inl (marked_keeps false e within w on)
        | inr is ↦ inl (subst (IsMarked (marked s v false)) (same_Some v w is) (marked_at false e within))
      ];
    }

  module _ (s : State) (firsts links : List ℕ) (linked : IsLinked edges firsts links) (h : IsWorklist edges None s) where
    -- an edge of the vertex that waits last is taken, and its end is marked
    pub advances_on : (new : State) (u v : ℕ) → length firsts ≡ length s.firsts → slice_get s.waiting (length s.waiting - 1) ≡ Some u →
        Takes edges s.firsts firsts u v → new ≡ marked (record s { firsts = firsts; links = links }) v (get_or s.reached v false) →
        AdvancesTo edges s new
    advances_on new u v len last takes is =
        let within : v < length s.reached = (edge_below (length s.reached) edges u v h.below takes.edge).1 in
        let b : Bool = get_or s.reached v false in
        subst (λ n. AdvancesTo edges s n) (sym is) (record {
          worklist = marked_worklist mid v b refl within taken_mid;
          len = marked_len mid v b;
          keeps = marked_keeps mid v b refl within;
          grows = λ w on. elim (marked_is mid v b w on) [
            | inl old ↦ inl old
            | inr same ↦ inr (u, h.waits u (length s.waiting - 1) last, subst (IsEdge edges u) (sym same) takes.edge)
          ];
          fewer = shorter b;
        })
      where
        mid : State
        mid = record s { firsts = firsts; links = links }

        was : (t w : ℕ) → IsTaken edges s.firsts t w → IsMarked s w ⊎ (Some v ≡ Some w)
        was t w taken = elim (h.taken t w taken) [
          | inl on ↦ inl on
          | inr e ↦ cc
        ]

        taken_mid : IsWorklist edges (Some v) mid
        taken_mid = record {
          linked = linked;
          len = len ∙ h.len;
          below = h.below;
          waits = h.waits;
          left = λ w on. elim (cases_eq w u) [
            | inl same ↦ inr (length s.waiting - 1, last ∙ ap Some (sym same))
            | inr other ↦ elim (h.left w on) [
              | inl all ↦ inl (takes.others w other ∙ all)
              | inr there ↦ inr there
            ]
          ];
          taken = λ t w taken. elim (cases_eq t u) [
            | inl same ↦ elim (takes.here w (subst (λ x. IsTaken edges firsts x w) same taken)) [
              | inl old ↦ was u w old
              | inr is' ↦ inr (ap Some (sym is'))
            ]
            | inr other ↦ was t w (taken_along edges s.firsts firsts t w (takes.others t other) taken)
          ];
        }

        shorter : (b : Bool) → 2 * sum (marked mid v b).firsts + length (marked mid v b).waiting < 2 * sum s.firsts + length s.waiting
        shorter true = omega (arith, takes.fewer)
        shorter false = omega (arith, takes.fewer, length-append s.waiting (v ∷ []))

    -- no edge of the vertex that waits last is left
    pub advances_off : (front : List ℕ) (u : ℕ) → firsts ≡ s.firsts → get_or s.firsts u 0 ≡ 0 → s.waiting ≡ front ++ u ∷ [] →
        AdvancesTo edges s (record s { firsts = firsts; links = links; waiting = front })
    advances_off front u same all e = record {
      worklist = record {
        linked = linked;
        len = ap length same ∙ h.len;
        below = h.below;
        waits = λ w i at. h.waits w i (on w i at);
        left = λ w on'. elim (h.left w on') [
          | inl none_left ↦ inl (first w ∙ none_left)
          | inr (i, at) ↦ elim (at_push front u w i (subst (λ waiting. slice_get waiting i ≡ Some w) e at)) [
            | inl there ↦ inr (i, there)
            | inr (_, is) ↦ inl (first w ∙ subst (λ x. get_or s.firsts x 0 ≡ 0) is all)
          ]
        ];
        taken = λ t w taken. h.taken t w (taken_along edges s.firsts firsts t w (first t) taken);
      };
      len = refl;
      keeps = λ w on'. on';
      grows = λ w on'. inl on';
      fewer = omega (arith, ap sum same, ap length e, length-append front (u ∷ []));
    }
      where
        on : (w i : ℕ) → slice_get front i ≡ Some w → slice_get s.waiting i ≡ Some w
        on w i at = subst (λ waiting. slice_get waiting i ≡ Some w) (sym e) (push_keeps front u i w at)

        first : (w : ℕ) → get_or firsts w 0 ≡ get_or s.firsts w 0
        first w = ap (λ xs. get_or xs w 0) same

-- what walks from the first vertices reach, once no vertex waits
pub worklist_reached : (edges : List Edge) (from : List ℕ) (s : State) → IsWorklist edges None s → s.waiting ≡ [] →
    ((v : ℕ) → IsMarked s v → IsReached edges from v) → ((v : ℕ) → Contains from v → IsMarked s v) →
    AreReached (length s.reached) edges from s.reached
worklist_reached edges from s h empty sound starts = record {
  len = refl;
  each = λ v.
      (sound v, λ walked. along walked.start v (starts walked.start walked.is_start) walked.walk);
}
  where
    on_edge : (u v : ℕ) → IsMarked s u → IsEdge edges u v → IsMarked s v
    on_edge u v on edge =
        let (j, at) = place_of edges (u, v) edge in
        let all : get_or s.firsts u 0 ≡ 0 = elim (h.left u on) [
          | inl none_left ↦ none_left
          | inr (i, there) ↦ absurd (nothing_at u i (subst (λ waiting. slice_get waiting i ≡ Some u) empty there))
        ] in
        elim (h.taken u v (j, omega (arith, all), at)) [
          | inl on' ↦ on'
          | inr e ↦ cc
        ]

    along : (u v : ℕ) → IsMarked s u → Walk edges u v → IsMarked s v
    along u v on (stay _ is) = subst (IsMarked s) is on
    along u v on (step t _ walk edge) = on_edge t v (along u t on walk) edge

-- with nothing reached
pub reaching_begun : (count : ℕ) (edges : List Edge) (from firsts links : List ℕ) → All (IsEdgeBelow count) edges →
    IsLinked edges firsts links → length firsts ≡ count → NothingTaken edges firsts →
    IsReaching count edges from (record { firsts = firsts; links = links; reached = replicate count false; waiting = [] })
reaching_begun count edges from firsts links all linked len nothing = record {
  worklist = begun edges count firsts links all linked len nothing;
  len = length-replicate count false;
  sound = λ v on. absurd (unmarked count v on);
}

module _ (count : ℕ) (edges : List Edge) (from : List ℕ) (s : State) (h : IsReaching count edges from s) where
  -- a first vertex is marked
  pub reaching_mark : (v : ℕ) → Contains from v → v < count → IsReaching count edges from (marked s v (get_or s.reached v false))
  reaching_mark v there below =
      let b : Bool = get_or s.reached v false in
      record {
        worklist = marked_worklist edges s v b refl (omega (arith, h.len)) (aimed edges s v h.worklist);
        len = marked_len edges s v b ∙ h.len;
        sound = λ w on. elim (marked_is edges s v b w on) [
          | inl old ↦ h.sound w old
          | inr same ↦ rw same (reached_start edges from v there)
        ];
      }

  -- one step
  pub reaching_step : (new : State) → AdvancesTo edges s new → IsReaching count edges from new
  reaching_step new next = record {
    worklist = next.worklist;
    len = next.len ∙ h.len;
    sound = λ w on. elim (next.grows w on) [
      | inl old ↦ h.sound w old
      | inr (u, before, edge) ↦ reached_on edges from u w (h.sound u before) edge
    ];
  }
