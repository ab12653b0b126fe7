-- Each step of the search for components keeps what the search stands for.
use Rattle.std.proofs.Common.{◌≡◌, ◌≢◌, ◌<◌, ◌≤◌, ◌-◌, ◌⊎◌, ◌++◌, ◌∷◌, [], ℕ, List, Option, Some, None, All, Contains, length, replicate}
use Rattle.std.proofs.Common.{get_or, set, slice_get, take, inl, inr, sym, ◌∙◌, ap, subst, arith, length-set, length-append}
use Rattle.std.proofs.lemmas.Bool.{cases_eq, cases_lt}
use Rattle.std.proofs.lemmas.List.{length-replicate, get_or-replicate}
use Rattle.std.proofs.lemmas.Option.{slice_get_within, get_or_from_slice_get, same_Some}
use Rattle.wb_lemmas.proofs.Members.{contains_at, place_of, contains_push, push_contains, push_contains_last}
use Rattle.wb_lemmas.proofs.Places.{at_push, push_keeps, push_last, at_take}
use Rattle.wb_graph.specs.Graphs.{Edge, IsEdge, IsEdgeBelow, Walk, stay, step}
use Rattle.wb_graph.specs.Inner.Groups.{State, IsOpen, IsClosed, LeadsOn, AreMarked, IsPath, IsGrouping, entered, AreKept}
use Rattle.wb_graph.specs.Inner.Taking.{IsLinked, IsTaken, NothingTaken, Takes}
use Rattle.wb_graph.specs.declared.groups.Mark.{Mark}
use Rattle.wb_graph.specs.declared.groups.Mark.TheVariants.{New, Open, Closed}
use Rattle.wb_graph.proofs.CallerLemmas.{walk_on}
use Rattle.wb_graph.proofs.Places.{at_set_same, at_set_other, take_keeps}
use Rattle.wb_graph.proofs.SearchLemmas.{taken_along}

-- no edge was just taken
abbrev pub no_aim : Option Edge
no_aim = None

-- the edge from u to v
abbrev pub from_to : ℕ → ℕ → Edge
from_to u v = (u, v)

-- an open mark is no new one
pub open-new : (i : ℕ) → Some (Open i) ≡ Some New → ⊥
open-new i same = cc

-- an open mark is no closed one
pub open-closed : (i a : ℕ) → Some (Open i) ≡ Some (Closed a) → ⊥
open-closed i a same = cc

-- a new mark is no closed one
pub new-closed : (a : ℕ) → Some New ≡ Some (Closed a) → ⊥
new-closed a same = cc

-- an open mark has one place
pub open_place : (i j : ℕ) → Some (Open i) ≡ Some (Open j) → i ≡ j
open_place i j same = cc

-- a closed mark has one number
pub closed_number : (a b : ℕ) → Some (Closed a) ≡ Some (Closed b) → a ≡ b
closed_number a b same = cc

module _ (edges : List Edge) where
  -- a search begins with every vertex new
  pub begun : (count : ℕ) (firsts links : List ℕ) → All (IsEdgeBelow count) edges → IsLinked edges firsts links → length firsts ≡ count
      → NothingTaken edges firsts
      → IsGrouping edges None (record {
        firsts = firsts;
        links = links;
        marks = replicate count New;
        opened = [];
        starts = [];
        path = [];
        roots = [];
      })
  begun count firsts links all linked len nothing = record {
    linked = linked;
    len = len ∙ sym (length-replicate count New);
    edges_below = rw (length-replicate count New) all;
    fresh = λ u v _. nothing u v;
    marked = record {
      open_marked = λ v i at. cc;
      marked_open = λ v i at. absurd (open-new i (sym at ∙ is_new v (Open i) at));
      grouped = λ v i at. cc;
    };
    on_path = record {
      opened = λ v k at. cc;
      rising = λ u v i j k l less at. cc;
      begun = λ p has. absurd (let e = has.1 in omega arith);
      starts_rise = λ p q m n less at. cc;
      left = λ v i at. cc;
    };
    walks = record { forth = λ u v i j less at. cc; back = λ u v i j less at. cc };
    closed = record {
      falls = λ u v a at edge. absurd (new-closed a (sym (is_new u (Closed a) at) ∙ at));
      walks = λ u v a at. absurd (new-closed a (sym (is_new u (Closed a) at) ∙ at));
      below = λ u a at. absurd (new-closed a (sym (is_new u (Closed a) at) ∙ at));
      every = λ v a at. cc;
    };
    taken = λ u v i at. cc;
  }
    where
      is_new : (v : ℕ) (a : Mark) → slice_get (replicate count New) v ≡ Some a → slice_get (replicate count New) v ≡ Some New
      is_new v a at =
          let within : v < count = subst (λ n. v < n) (length-replicate count New) (slice_get_within (replicate count New) v a at) in
          at ∙ ap Some (sym (get_or_from_slice_get (replicate count New) v a New at) ∙ get_or-replicate count v New New within)

  module _ (s : State) where
    -- a vertex is open at one place
    pub one_place : AreMarked s → (v i j : ℕ) → IsOpen s v i → IsOpen s v j → i ≡ j
    one_place marked v i j first second = open_place i j (sym (marked.open_marked v i first) ∙ marked.open_marked v j second)

    -- no group begins after the path's last vertex
    pub starts_low : AreMarked s → IsPath s → (t i p : ℕ) → slice_get s.path (length s.path - 1) ≡ Some t → IsOpen s t i →
        Contains s.starts p → p ≤ i
    starts_low marked path t i p last at has =
        let (v, there, (k, on)) = path.begun p has in
        let within : k < length s.path = slice_get_within s.path k v on in
        elim (cases_lt k (length s.path - 1)) [
          | inl less ↦ (let low : p < i = path.rising v t p i k (length s.path - 1) less on last there at in omega arith)
          | inr more ↦
              let same : k ≡ length s.path - 1 = omega arith in
              let is : v ≡ t = same_Some v t (sym (subst (λ n. slice_get s.path n ≡ Some v) same on) ∙ last) in
              let e : p ≡ i = one_place marked t p i (subst (λ x. IsOpen s x p) is there) at in
              omega arith
        ]

    -- from each open vertex a walk leads to the path's last vertex
    pub all_reach : IsGrouping edges None s → (t i : ℕ) → slice_get s.path (length s.path - 1) ≡ Some t → IsOpen s t i → (u j : ℕ) →
        IsOpen s u j → Walk edges u t
    all_reach h t i last at u j there = elim (cases_lt i j) [
      | inl later ↦
          h.walks.back t u i j (omega arith) at there
          (λ p has more. (let low : p ≤ i = starts_low h.marked h.on_path t i p last at has in absurd (omega arith)))
      | inr before ↦ h.walks.forth u t j i (omega arith) there at
    ]

    -- with no edge taken the chains may be written anew
    pub retaken : (firsts links : List ℕ) (aim : Option Edge) → IsLinked edges firsts links → firsts ≡ s.firsts → IsGrouping edges aim s
        → IsGrouping edges aim (record s { firsts = firsts; links = links })
    retaken firsts links aim linked e h = record {
      linked = linked;
      len = ap length e ∙ h.len;
      edges_below = h.edges_below;
      fresh = λ u v new taken. h.fresh u v new (taken_along edges s.firsts firsts u v (ap (λ xs. get_or xs u 0) e) taken);
      marked = record { open_marked = h.marked.open_marked; marked_open = h.marked.marked_open; grouped = h.marked.grouped };
      on_path = record {
        opened = h.on_path.opened;
        rising = h.on_path.rising;
        begun = h.on_path.begun;
        starts_rise = h.on_path.starts_rise;
        left = λ v i at. elim (h.on_path.left v i at) [
          | inl none_left ↦ inl (ap (λ xs. get_or xs v 0) e ∙ none_left)
          | inr on ↦ inr on
        ];
      };
      walks = record { forth = h.walks.forth; back = h.walks.back };
      closed = record { falls = h.closed.falls; walks = h.closed.walks; below = h.closed.below; every = h.closed.every };
      taken = λ u v i at taken. h.taken u v i at (taken_along edges s.firsts firsts u v (ap (λ xs. get_or xs u 0) e) taken);
    }

    -- an edge of the path's last vertex is taken: it is the aim
    pub took : (firsts links : List ℕ) (t w : ℕ) → IsLinked edges firsts links → length firsts ≡ length s.firsts
        → slice_get s.path (length s.path - 1) ≡ Some t → Takes edges s.firsts firsts t w → IsGrouping edges None s
        → IsGrouping edges (Some (t, w)) (record s { firsts = firsts; links = links })
    took firsts links t w linked len last takes h =
        let (i, at) = h.on_path.opened t (length s.path - 1) last in
        record {
          linked = linked;
          len = len ∙ h.len;
          edges_below = h.edges_below;
          fresh = λ u v new taken.
              let other : u ≢ t = λ same. open-new i (sym (h.marked.open_marked t i at) ∙ (ap (slice_get s.marks) (sym same) ∙ new)) in
              h.fresh u v new (taken_along edges s.firsts firsts u v (takes.others u other) taken);
          marked = record { open_marked = h.marked.open_marked; marked_open = h.marked.marked_open; grouped = h.marked.grouped };
          on_path = record {
            opened = h.on_path.opened;
            rising = h.on_path.rising;
            begun = h.on_path.begun;
            starts_rise = h.on_path.starts_rise;
            left = λ v j there. elim (cases_eq v t) [
              | inl same ↦ inr (length s.path - 1, subst (λ x. slice_get s.path (length s.path - 1) ≡ Some x) (sym same) last)
              | inr other ↦ elim (h.on_path.left v j there) [
                | inl none_left ↦ inl (takes.others v other ∙ none_left)
                | inr on ↦ inr on
              ]
            ];
          };
          walks = record { forth = h.walks.forth; back = h.walks.back };
          closed = record { falls = h.closed.falls; walks = h.closed.walks; below = h.closed.below; every = h.closed.every };
          taken = λ u v j there taken. elim (cases_eq u t) [
            | inl same ↦ elim (takes.here v (subst (λ x. IsTaken edges firsts x v) same taken)) [
              | inl old ↦ further u v j (h.taken u v j there (subst (λ x. IsTaken edges s.firsts x v) (sym same) old))
              | inr is ↦ inr (aimed u v same is)
            ]
            | inr other ↦ further u v j (h.taken u v j there (taken_along edges s.firsts firsts u v (takes.others u other) taken))
          ];
        }
      where
        further : (u v j : ℕ) → LeadsOn s j v ⊎ (no_aim ≡ Some (u, v)) → LeadsOn s j v ⊎ (Some (from_to t w) ≡ Some (from_to u v))
        further u v j (inl on) = inl on
        further u v j (inr never) = cc

        -- an edge from the last vertex to the aim's is the aim
        aimed : (u v : ℕ) → u ≡ t → v ≡ w → Some (from_to t w) ≡ Some (from_to u v)
        aimed u v same is = ap (λ x. Some (from_to x w)) (sym same) ∙ ap (λ y. Some (from_to u y)) (sym is)

    -- the aim leads to a closed vertex
    pub passed : (t w a : ℕ) → IsClosed s w a → IsGrouping edges (Some (t, w)) s → IsGrouping edges None s
    passed t w a at h = record {
      linked = h.linked;
      len = h.len;
      edges_below = h.edges_below;
      fresh = h.fresh;
      marked = h.marked;
      on_path = h.on_path;
      walks = h.walks;
      closed = h.closed;
      taken = λ u v i there taken. elim (h.taken u v i there taken) [
        | inl on ↦ inl on
        | inr is ↦
            let e : (t, w) ≡ (u, v) = same_Some (t, w) (u, v) is in
            inl (inl (a, subst (λ x. IsClosed s x a) (ap (λ (x : Edge). x.1) e) at))
      ];
    }

    -- the aim leads to a vertex that wasn't met: it is met, and forms a group of its own
    pub enters : (aim : Option Edge) (w : ℕ) → slice_get s.marks w ≡ Some New → ((u i : ℕ) → IsOpen s u i → Walk edges u w)
        → ((u v : ℕ) → aim ≡ Some (u, v) → v ≡ w) → IsGrouping edges aim s → IsGrouping edges None (entered s w)
    enters aim w new reach aims h =
        let n : ℕ = length s.opened in
        let within : w < length s.marks = slice_get_within s.marks w New new in
        record {
          linked = h.linked;
          len = h.len ∙ sym (length-set s.marks w (Open n));
          edges_below = rw (length-set s.marks w (Open n)) h.edges_below;
          fresh = λ u v is. h.fresh u v (old_new u is);
          marked = record {
            open_marked = λ v i at. elim (at_push s.opened w v i at) [
              | inl before ↦ kept v (Open i) (other v i before) (h.marked.open_marked v i before)
              | inr last ↦
                  let same : v ≡ w = sym last.1 in
                  subst (λ x. slice_get (set s.marks w (Open n)) x ≡ Some (Open i)) (sym same)
                  (at_set_same s.marks w (Open n) within ∙ ap (λ k. Some (Open k)) (sym last.0))
            ];
            marked_open = λ v i at. elim (cases_eq v w) [
              | inl same ↦
                  let place : n ≡ i = open_place n i
                  (sym (at_set_same s.marks w (Open n) within) ∙ (ap (slice_get (set s.marks w (Open n))) (sym same) ∙ at)) in
                  subst (λ k. slice_get (s.opened ++ w ∷ []) k ≡ Some v) place (push_last s.opened w ∙ ap Some (sym same))
              | inr differs ↦ push_keeps s.opened w i v (h.marked.marked_open v i (sym (at_set_other s.marks w v (Open n) differs) ∙ at))
            ];
            grouped = λ v i at. elim (at_push s.opened w v i at) [
              | inl before ↦ (let (p, has, low) = h.marked.grouped v i before in (p, push_contains s.starts n p has, low))
              | inr last ↦ (n, push_contains_last s.starts n, omega (arith, last.0))
            ];
          };
          on_path = record {
            opened = λ v k at. elim (at_push s.path w v k at) [
              | inl before ↦ (let (i, there) = h.on_path.opened v k before in (i, push_keeps s.opened w i v there))
              | inr last ↦ (n, push_last s.opened w ∙ ap Some last.1)
            ];
            rising = λ u v i j k l less at at' there there'. elim (at_push s.path w u k at) [
              | inl before ↦
                  let (a, was) = h.on_path.opened u k before in
                  let place : i ≡ a = at_place u i a there was in
                  let low : a < n = slice_get_within s.opened a u was in
                  elim (at_push s.path w v l at') [
                    | inl before' ↦
                        let (b, was') = h.on_path.opened v l before' in
                        let place' : j ≡ b = at_place v j b there' was' in
                        let more : a < b = h.on_path.rising u v a b k l less before before' was was' in
                        omega arith
                    | inr last' ↦
                        let last_place : j ≡ n = new_place v j (sym last'.1) there' in
                        omega arith
                  ]
              | inr last ↦
                  let past : l < length (s.path ++ w ∷ []) = slice_get_within (s.path ++ w ∷ []) l v at' in
                  absurd (omega (arith, last.0, length-append s.path (w ∷ [])))
            ];
            begun = λ p has. elim (contains_push s.starts n p has) [
              | inl before ↦
                  let (v, there, (k, on)) = h.on_path.begun p before in
                  (v, push_keeps s.opened w p v there, (k, push_keeps s.path w k v on))
              | inr is ↦ (w, ap (slice_get (s.opened ++ w ∷ [])) (sym is) ∙ push_last s.opened w, (length s.path, push_last s.path w))
            ];
            starts_rise = λ p q k l less at at'. elim (at_push s.starts n p k at) [
              | inl before ↦ elim (at_push s.starts n q l at') [
                | inl before' ↦ h.on_path.starts_rise p q k l less before before'
                | inr last' ↦ (let low : p < n = start_within p (contains_at s.starts p k before) in omega (arith, last'.1))
              ]
              | inr last ↦
                  let past : l < length (s.starts ++ n ∷ []) = slice_get_within (s.starts ++ n ∷ []) l q at' in
                  absurd (omega (arith, last.0, length-append s.starts (n ∷ [])))
            ];
            left = λ v i at. elim (at_push s.opened w v i at) [
              | inl before ↦ elim (h.on_path.left v i before) [
                | inl none_left ↦ inl none_left
                | inr on ↦ inr (on.0, push_keeps s.path w on.0 v on.1)
              ]
              | inr last ↦ inr (length s.path, push_last s.path w ∙ ap Some last.1)
            ];
          };
          walks = record {
            forth = λ u v i j less at at'. elim (at_push s.opened w v j at') [
              | inl before' ↦ elim (at_push s.opened w u i at) [
                | inl before ↦ h.walks.forth u v i j less before before'
                | inr last ↦ (let low : j < n = slice_get_within s.opened j v before' in absurd (omega (arith, last.0)))
              ]
              | inr last' ↦ elim (at_push s.opened w u i at) [
                | inl before ↦ subst (λ x. Walk edges u x) last'.1 (reach u i before)
                | inr last ↦ stay v (sym last.1 ∙ last'.1)
              ]
            ];
            back = λ u v i j less at at' grouped. elim (at_push s.opened w v j at') [
              | inl before' ↦ elim (at_push s.opened w u i at) [
                | inl before ↦ h.walks.back u v i j less before before' (λ p has. grouped p (push_contains s.starts n p has))
                | inr last ↦ (let low : j < n = slice_get_within s.opened j v before' in absurd (omega (arith, last.0)))
              ]
              | inr last' ↦ elim (at_push s.opened w u i at) [
                | inl before ↦
                    let low : i < n = slice_get_within s.opened i u before in
                    let never : j < n = grouped n (push_contains_last s.starts n) low in
                    absurd (omega (arith, last'.0))
                | inr last ↦ stay u (sym last'.1 ∙ last.1)
              ]
            ];
          };
          closed = record {
            falls = λ u v a at edge.
                let (b, there, low) = h.closed.falls u v a (old_closed u a at) edge in
                (b, kept v (Closed b) (not_new v (Closed b) (new-closed b) there) there, low);
            walks = λ u v a at at'. h.closed.walks u v a (old_closed u a at) (old_closed v a at');
            below = λ u a at. h.closed.below u a (old_closed u a at);
            every = λ v a at. (let there = h.closed.every v a at in kept v (Closed a) (not_new v (Closed a) (new-closed a) there) there);
          };
          taken = λ u v i at taken. elim (at_push s.opened w u i at) [
            | inl before ↦ elim (h.taken u v i before taken) [
              | inl on ↦ inl (elim on [
                | inl was ↦ inl (was.0, kept v (Closed was.0) (not_new v (Closed was.0) (new-closed was.0) was.1) was.1)
                | inr there ↦ inr (
                  there.0,
                  push_keeps s.opened w there.0 v there.1,
                  λ p has more. elim (contains_push s.starts n p has) [
                    | inl old ↦ there.2 p old more
                    | inr is ↦ (let low : i < n = slice_get_within s.opened i u before in omega arith)
                  ],
                )
              ])
              | inr is ↦
                  let same : v ≡ w = aims u v is in
                  inl (inr (
                    n,
                    push_last s.opened w ∙ ap Some (sym same),
                    λ p has more. elim (contains_push s.starts n p has) [
                      | inl old ↦ (let low : p < n = start_within p old in absurd (omega arith))
                      | inr e ↦ absurd (omega arith)
                    ],
                  ))
            ]
            | inr last ↦ absurd (h.fresh w v new (subst (λ x. IsTaken edges s.firsts x v) (sym last.1) taken))
          ];
        }
      where
        -- a vertex with another mark than new is another vertex
        not_new : (v : ℕ) (m : Mark) → (Some New ≡ Some m → ⊥) → slice_get s.marks v ≡ Some m → v ≢ w
        not_new v m differs at same = differs (sym new ∙ (ap (slice_get s.marks) (sym same) ∙ at))

        -- an open vertex is another vertex
        other : (v i : ℕ) → IsOpen s v i → v ≢ w
        other v i at = not_new v (Open i) (λ e. open-new i (sym e)) (h.marked.open_marked v i at)

        -- another vertex keeps its mark
        kept : (v : ℕ) (m : Mark) → v ≢ w → slice_get s.marks v ≡ Some m → slice_get (set s.marks w (Open (length s.opened))) v ≡ Some m
        kept v m differs at = at_set_other s.marks w v (Open (length s.opened)) differs ∙ at

        -- what is new was new
        old_new : (v : ℕ) → slice_get (set s.marks w (Open (length s.opened))) v ≡ Some New → slice_get s.marks v ≡ Some New
        old_new v at = elim (cases_eq v w) [
          | inl same ↦ subst (λ x. slice_get s.marks x ≡ Some New) (sym same) new
          | inr differs ↦ sym (at_set_other s.marks w v (Open (length s.opened)) differs) ∙ at
        ]

        -- what is closed was closed
        old_closed : (v a : ℕ) → slice_get (set s.marks w (Open (length s.opened))) v ≡ Some (Closed a) → IsClosed s v a
        old_closed v a at = elim (cases_eq v w) [
          | inl same ↦
              absurd (open-closed (length s.opened) a
              (sym (at_set_same s.marks w (Open (length s.opened)) (slice_get_within s.marks w New new))
              ∙ (ap (slice_get (set s.marks w (Open (length s.opened)))) (sym same) ∙ at)))
          | inr differs ↦ sym (at_set_other s.marks w v (Open (length s.opened)) differs) ∙ at
        ]

        -- a start is the place of an open vertex
        start_within : (p : ℕ) → Contains s.starts p → p < length s.opened
        start_within p has = let (v, there, on) = h.on_path.begun p has in slice_get_within s.opened p v there

        -- a vertex that was open is at its place
        at_place : (v i a : ℕ) → slice_get (s.opened ++ w ∷ []) i ≡ Some v → IsOpen s v a → i ≡ a
        at_place v i a at was = elim (at_push s.opened w v i at) [
          | inl before ↦ one_place h.marked v i a before was
          | inr last ↦ absurd (other v a was (sym last.1))
        ]

        -- the vertex that is met is at the last place
        new_place : (v i : ℕ) → v ≡ w → slice_get (s.opened ++ w ∷ []) i ≡ Some v → i ≡ length s.opened
        new_place v i same at = elim (at_push s.opened w v i at) [
          | inl before ↦ absurd (other v i before same)
          | inr last ↦ last.0
        ]

    -- the aim leads to an open vertex: the groups from its own on are one
    pub joins : (t w i j kept : ℕ) → slice_get s.path (length s.path - 1) ≡ Some t → IsOpen s t i → IsOpen s w j → IsEdge edges t w
        → AreKept s.starts j kept → IsGrouping edges (Some (t, w)) s → IsGrouping edges None (record s { starts = take kept s.starts })
    joins t w i j n last at there edge keeps h = record {
      linked = h.linked;
      len = h.len;
      edges_below = h.edges_below;
      fresh = h.fresh;
      marked = record {
        open_marked = h.marked.open_marked;
        marked_open = h.marked.marked_open;
        grouped = λ v k on.
            let (p, has, low) = h.marked.grouped v k on in
            elim (cases_lt j p) [
              | inl high ↦ (let (q, has', low') = h.marked.grouped w j there in (q, keep q has' low', omega arith))
              | inr within ↦ (p, keep p has (omega arith), low)
            ];
      };
      on_path = record {
        opened = h.on_path.opened;
        rising = h.on_path.rising;
        begun = λ p has. h.on_path.begun p (was p has).0;
        starts_rise = λ p q k l less on on'. h.on_path.starts_rise p q k l less (at_take s.starts n k p on).1
            (at_take s.starts n l q on').1;
        left = h.on_path.left;
      };
      walks = record {
        forth = h.walks.forth;
        back = λ u v k l less on on' grouped. elim (cases_lt j l) [
          | inr within ↦ h.walks.back u v k l less on on' (λ p has more. elim (cases_lt j p) [
            | inl high ↦ omega arith
            | inr low ↦ grouped p (keep p has (omega arith)) more
          ])
          | inl past ↦
              let around : Walk edges v w = step t w (reach v l on') edge in
              elim (cases_lt k j) [
                | inl before ↦ walk_on edges v w u around (h.walks.back u w k j (omega arith) on there (λ p has more. elim (cases_lt j p) [
                  | inl high ↦ high
                  | inr low ↦ (let far : l < p = grouped p (keep p has (omega arith)) more in omega arith)
                ]))
                | inr after ↦ walk_on edges v w u around (h.walks.forth w u j k (omega arith) there on)
              ]
        ];
      };
      closed = record { falls = h.closed.falls; walks = h.closed.walks; below = h.closed.below; every = h.closed.every };
      taken = λ u v k on taken. elim (h.taken u v k on taken) [
        | inl leads ↦ inl (elim leads [
          | inl done ↦ inl done
          | inr opened ↦ inr (opened.0, opened.1, λ p has. opened.2 p (was p has).0)
        ])
        | inr is ↦
            let e : (t, w) ≡ (u, v) = same_Some (t, w) (u, v) is in
            let same : w ≡ v = ap (λ (x : Edge). x.1) e in
            inl (inr (j, subst (λ x. IsOpen s x j) same there, λ p has more. absurd (let low : p ≤ j = (was p has).1 in omega arith)))
      ];
    }
      where
        -- a start that is kept was there, at most at the place
        was : (p : ℕ) → Contains (take n s.starts) p → Contains s.starts p × (p ≤ j)
        was p has =
            let (k, on) = place_of (take n s.starts) p has in
            let (less, on') = at_take s.starts n k p on in
            (contains_at s.starts p k on', keeps.low k p on' less)

        -- a start at most at the place is kept
        keep : (p : ℕ) → Contains s.starts p → p ≤ j → Contains (take n s.starts) p
        keep p has low =
            let (k, on) = place_of s.starts p has in
            elim (cases_lt k n) [
              | inl less ↦ contains_at (take n s.starts) p k (take_keeps s.starts n k p less on)
              | inr more ↦ (let high : j < p = keeps.high k p on (omega arith) in absurd (omega arith))
            ]

        -- from each open vertex a walk leads to the last vertex of the path
        reach : (u k : ℕ) → IsOpen s u k → Walk edges u t
        reach u k on = elim (cases_lt i k) [
          | inl later ↦
              h.walks.back t u i k (omega arith) at on
              (λ p has more. (let low : p ≤ i = starts_low h.marked h.on_path t i p last at has in absurd (omega arith)))
          | inr before ↦ h.walks.forth u t k i (omega arith) on at
        ]
