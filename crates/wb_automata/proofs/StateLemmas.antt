-- The moves as states are found.
use Rattle.std.proofs.Common.{◌≡◌, ℕ, ◌+◌, ◌*◌, ◌^◌, ◌≤◌, ◌<◌, ◌⊎◌, List, [], ◌∷◌, ◌++◌, refl, sym, ◌∙◌, ap, subst, arith, inl, inr, Option}
use Rattle.std.proofs.Common.{Some, None, length, get_or, length-append, suc-mul, add-one}
use Rattle.std.specs.Prelude.{slice_get, ◌↔◌, Contains}
use Rattle.std.proofs.lemmas.List.{get_or_append_left, get_or_push}
use Rattle.std.proofs.lemmas.Option.{slice_get-get_or, slice_get_within, same_Some}
use Rattle.std.proofs.lemmas.Bool.{cases_lt}
use Rattle.wb_lemmas.proofs.Numbers.{place_below}
use Rattle.wb_lemmas.proofs.Places.{append_keeps, at_push, push_last, nothing_at}
use Rattle.wb_automata_positions.specs.declared.tables.Tables.{Tables}
use Rattle.wb_automata.specs.Automata.{Path, IsEarlier}
use Rattle.wb_automata_positions.specs.Rows.{row}
use Rattle.wb_automata_positions.specs.Transitions.{IsTable, IsPlaceList, Ahead, count_of}
use Rattle.wb_automata.specs.Inner.Found.{Reads, Found, on, IsPlaced, IsMoved, AllBefore, AreFound, Extends}
use Rattle.wb_automata_positions.specs.Rising.{AreRising}
use Rattle.wb_automata.specs.Inner.Exploring.{IsMove, AreMoves, SetsBelow, RowPass, RowsPass, RowsFrom, StartsAt, AreExplored}
use Rattle.wb_automata.proofs.OrderLemmas.{earlier_more, earlier_last, earlier_next}
use Rattle.wb_automata.proofs.PlaceLemmas.{extends_same, extends_more, place_extends, place_found, place_target, place_before, pushed_at}
use Rattle.wb_automata.proofs.PlaceLemmas.{NewState}

-- a state that was there is as it was
pub back_set : (old new : Found) (j : ℕ) (set : List ℕ) → Extends old new → j < length old.sets → slice_get new.sets j ≡ Some set
    → slice_get old.sets j ≡ Some set
back_set old new j set g lt at =
    let s : slice_get old.sets j ≡ Some (get_or old.sets j []) = slice_get-get_or old.sets j [] lt in
    s ∙ ap Some (same_Some (get_or old.sets j []) set (sym (g.sets j (get_or old.sets j []) s) ∙ at))

back_path : (old new : Found) (j : ℕ) (path : Path) → Extends old new → j < length old.paths → slice_get new.paths j ≡ Some path
    → slice_get old.paths j ≡ Some path
back_path old new j path g lt at =
    let s : slice_get old.paths j ≡ Some (get_or old.paths j path) = slice_get-get_or old.paths j path lt in
    s ∙ ap Some (same_Some (get_or old.paths j path) path (sym (g.paths j (get_or old.paths j path) s) ∙ at))

pub move_extends : (t : Tables) (old new : Found) (set : List ℕ) (path : Path) (b : ℕ) (o : Option ℕ) → Extends old new
    → IsMove t old set path b o → IsMove t new set path b o
move_extends t old new set path b None g h = h
move_extends t old new set path b (Some j) g h = record {
  next = h.next;
  own = h.own;
  at = g.sets j h.next h.at;
  at_path = g.paths j h.own
      h.at_path;
  exact = h.exact;
  some = h.some;
  least = h.least;
}

-- moves stay where states are added
moves_extend : (t : Tables) (bytes : List ℕ) (old new : Found) (moves : List (Option ℕ)) (i c : ℕ) → length old.paths ≡ length old.sets
    → Extends old new → ((j k : ℕ) → (j < i) ⊎ ((j ≡ i) × (k < c)) → j < length old.sets) → AreMoves t bytes old moves i c
    → AreMoves t bytes new moves i c
moves_extend t bytes old new moves i c len g within h = record {
  len = h.len;
  lead = λ j k set path which below at at_path.
      let lt : j < length old.sets = within j k which in
      move_extends t old new set path (get_or bytes k 0) (get_or moves (j * length bytes + k) None) g
      (h.lead j k set path which below (back_set old new j set g lt at) (back_path old new j path g (omega arith) at_path));
}

-- one move more
pub moves_push : (t : Tables) (bytes : List ℕ) (found : Found) (moves : List (Option ℕ)) (i c : ℕ) (set : List ℕ) (path : Path) (o : Option ℕ)
    → c < length bytes → slice_get found.sets i ≡ Some set → slice_get found.paths i ≡ Some path → AreMoves t bytes found moves i c
    → IsMove t found set path (get_or bytes c 0) o → AreMoves t bytes found (moves ++ o ∷ []) i (c + 1)
moves_push t bytes found moves i c set path o short at at_path h last = record {
  len = omega (arith, h.len, length-append moves (o ∷ []));
  lead = λ j k s p which below here here_path. elim (earlier j k below which) [
    | inl (lt, old) ↦ rw (get_or_append_left moves (o ∷ []) None (j * length bytes + k) lt) (h.lead j k s p old below here here_path)
    | inr (e, f) ↦
        let same_set : set ≡ s = same_Some set s (sym at ∙ ap (slice_get found.sets) (sym e) ∙ here) in
        let same_path : path ≡ p = same_Some path p (sym at_path ∙ ap (slice_get found.paths) (sym e) ∙ here_path) in
        let place : j * length bytes + k ≡ i * length bytes + c = ap (λ z. z * length bytes + k) e ∙ ap (λ z. i * length bytes + z) f in
        subst (λ z. IsMove t found s p (get_or bytes k 0) (get_or (moves ++ o ∷ []) z None)) (sym place)
        (rw (get_or_push moves o None (i * length bytes + c) h.len)
        (subst (λ z. IsMove t found s p (get_or bytes z 0) o) (sym f)
        (subst (λ z. IsMove t found s z (get_or bytes c 0) o) same_path
        (subst (λ z. IsMove t found z path (get_or bytes c 0) o) same_set last))))
  ];
}
  where
    earlier : (j k : ℕ) → k < length bytes → (j < i) ⊎ ((j ≡ i) × (k < c + 1)) →
        ((j * length bytes + k < length moves) × ((j < i) ⊎ ((j ≡ i) × (k < c)))) ⊎ ((j ≡ i) × (k ≡ c))
    earlier j k below (inl lt) = inl (omega (arith, h.len, place_below j k (length bytes) i lt below), inl lt)
    earlier j k below (inr (e, less)) = elim (cases_lt k c) [
      | inl lt ↦ inl (omega (arith, h.len, ap (λ z. z * length bytes) e), inr (e, lt))
      | inr past ↦ inr (e, omega arith)
    ]

-- a row begins
pub row_begin : (t : Tables) (bytes : List ℕ) (found : Found) (moves : List (Option ℕ)) (i : ℕ) (ahead : List ℕ)
    → RowsPass t bytes found moves i → i < length found.sets →
    ((set : List ℕ) → slice_get found.sets i ≡ Some set → (q : ℕ) → Contains ahead q ↔ Ahead t set q) → IsPlaceList
    (length t.nodes.items) ahead → RowPass t bytes found found i ahead moves 0
row_begin t bytes found moves i ahead h lt is places =
    let ready = h.ready lt in
    record {
      set = ready.set;
      path = ready.path;
      at = ready.at;
      at_path = ready.at_path;
      is = is ready.set ready.at;
      places = places;
      extends = extends_same found;
      sets_kept = λ top below. below;
      found_ok = h.found_ok;
      are_moves = h.are_moves;
      edge = λ b up. ready.ahead b;
    }

-- a move is put after the others of its row
pub row_step : (t : Tables) (bytes : List ℕ) (old mid new : Found) (i : ℕ) (ahead : List ℕ) (moves : List (Option ℕ)) (c : ℕ)
    (o : Option ℕ) (w : Path) → IsTable t → AreRising bytes → c < length bytes → (h : RowPass t bytes old mid i ahead moves c)
    → w ≡ on h.path (get_or bytes c 0) → IsMoved t.nodes.items ahead w (get_or bytes c 0) mid new o → RowPass t bytes old new i ahead
    (moves ++ o ∷ []) (c + 1)
row_step t bytes old mid new i ahead moves c None w table rising lt h e (same, off) =
    let f : RowPass t bytes old mid i ahead (moves ++ None ∷ []) (c + 1) = record {
      set = h.set;
      path = h.path;
      at = h.at;
      at_path = h.at_path;
      is = h.is;
      places = h.places;
      extends = h.extends;
      sets_kept = h.sets_kept;
      found_ok = h.found_ok;
      are_moves = moves_push t bytes mid moves i c h.set h.path None lt h.at h.at_path h.are_moves
          (λ q (holds, a). off q holds ((h.is q).1 a));
      edge = λ b up. h.edge b (λ k less. up k (omega arith));
    } in
    subst (λ z. RowPass t bytes old z i ahead (moves ++ None ∷ []) (c + 1)) (sym same) f
row_step t bytes old mid new i ahead moves c (Some j) w table rising lt h e m =
    let r : ℕ = get_or bytes c 0 in
    let to : Path = on h.path r in
    let placed : IsPlaced mid m.next to new j = subst (λ z. IsPlaced mid m.next z new j) e m.placed in
    let g : Extends mid new = place_extends mid new m.next to j placed in
    let before : AllBefore mid.paths to = h.edge r (λ k less. rising k c less lt) in
    let exact : (q : ℕ) → Contains m.next q ↔ Reads t h.set r q = λ q.
    (λ has. let (x, y) = (m.exact q).0 has in (x, (h.is q).0 y), λ (x, y). (m.exact q).1 (x, (h.is q).1 y)) in
    let len : length mid.paths ≡ length mid.sets = h.found_ok.len in
    let s : NewState t mid m.next to = record {
      before = before;
      places = record {
        below = λ k d less.
            (let b = m.places.below k d less in omega arith);
        rising = m.places.rising;
      };
      each = inr (record {
        from = i;
        byte = r;
        set = h.set;
        path = h.path;
        own = m.next;
        earlier = slice_get_within mid.sets i h.set h.at;
        at = append_keeps mid.sets (m.next ∷ []) i h.set h.at;
        at_path = append_keeps mid.paths (to ∷ []) i h.path h.at_path;
        here = push_last mid.sets m.next;
        here_path = pushed_at mid.paths to (length mid.sets) (sym len);
        exact = exact;
      });
    } in
    let target = place_target mid new m.next to j len before placed in
    let found_ok : AreFound t new = place_found t mid new m.next to j s h.found_ok placed in
    record {
      set = h.set;
      path = h.path;
      at = g.sets i h.set h.at;
      at_path = g.paths i h.path h.at_path;
      is = h.is;
      places = h.places;
      extends = extends_more old mid new h.extends g;
      sets_kept = λ top below. place_top top mid new m.next to j placed (h.sets_kept top below) (h.sets_kept top below i h.path h.at_path);
      found_ok = found_ok;
      are_moves = moves_push t bytes new moves i c h.set h.path (Some j) lt (g.sets i h.set h.at) (g.paths i h.path h.at_path)
          (moves_extend t bytes mid new moves i c len g (λ k l which. row_within i k (length mid.sets)
          (slice_get_within mid.sets i h.set h.at) l c which) h.are_moves)
          (record {
            next = m.next;
            own = target.own;
            at = placed.here;
            at_path = target.at;
            exact = exact;
            some = m.some;
            least = target.least;
          });
      edge = λ b up. place_before mid new m.next to (on h.path b) j placed (h.edge b (λ k less. up k (omega arith)))
          (earlier_last h.path r b (up c (omega arith)));
    }
  where
    place_top : (top : ℕ) (mid new : Found) (set : List ℕ) (path : Path) (j : ℕ) → IsPlaced mid set path new j → SetsBelow top mid
        → path.set < top → SetsBelow top new
    place_top top mid new set path j p below lt k u at = elim p.change [
      | inl same ↦ below k u (subst (λ z. slice_get z.paths k ≡ Some u) same at)
      | inr (last, same) ↦ elim (at_push mid.paths path u k (subst
          (λ z. slice_get z.paths k ≡ Some u) same at)) [ inl f ↦ below k u f | inr (_, f) ↦ subst (λ z. z.set < top) f lt ]
    ]

    row_within : (i k n : ℕ) → i < n → (l c : ℕ) → (k < i) ⊎ ((k ≡ i) × (l < c)) → k < n
    row_within i k n lt l c (inl less) = omega arith
    row_within i k n lt l c (inr (e, less)) = omega arith

-- the row is whole
pub row_end : (t : Tables) (bytes : List ℕ) (old found : Found) (i : ℕ) (ahead : List ℕ) (moves : List (Option ℕ)) (c : ℕ) →
    ((k : ℕ) → k < length bytes → get_or bytes k 0 < 256) → c ≡ length bytes → RowPass t bytes old found i ahead moves c
    → RowsFrom t bytes old found moves (i + 1)
row_end t bytes old found i ahead moves c small whole h = record {
  extends = h.extends;
  sets_kept = h.sets_kept;
  rows = record {
    within = (let lt = slice_get_within found.sets i h.set h.at in omega arith);
    found_ok = h.found_ok;
    ready = λ less.
        let own : List ℕ = get_or found.sets (i + 1) [] in
        let next : Path = get_or found.paths (i + 1) h.path in
        let at : slice_get found.sets (i + 1) ≡ Some own = slice_get-get_or found.sets (i + 1) [] less in
        let at_path : slice_get found.paths (i + 1) ≡ Some next = slice_get-get_or found.paths (i + 1) h.path
        (omega (arith, h.found_ok.len)) in
        let after : IsEarlier h.path next = h.found_ok.sorted i (i + 1) h.path next (omega arith) h.at_path at_path in
        record {
          set = own;
          path = next;
          at = at;
          at_path = at_path;
          ahead = λ b j u e. earlier_next u (on h.path 256) (on next b) (h.edge 256 (λ k lt. small k (omega arith)) j u e)
              (earlier_more h.path next 256 b after);
        };
    are_moves = record {
      len = h.are_moves.len ∙ row_length i (length bytes) c whole;
      lead = λ j k set path which below at at_path. h.are_moves.lead j k set path (earlier j k which below) below at at_path;
    };
  };
}
  where
    row_length : (i w c : ℕ) → c ≡ w → i * w + c ≡ (i + 1) * w + 0
    row_length i w c e = let f : (i + 1) * w ≡ i * w + w = ap (λ z. z * w) (add-one i) ∙ suc-mul i w in omega arith

    earlier : (j k : ℕ) → (j < i + 1) ⊎ ((j ≡ i + 1) × (k < 0)) → k < length bytes → (j < i) ⊎ ((j ≡ i) × (k < c))
    earlier j k (inl lt) below = elim (cases_lt j i) [ inl less ↦ inl less | inr past ↦ inr (omega arith, omega arith) ]
    earlier j k (inr (e, lt)) below = absurd (omega arith)

-- more rows
pub rows_more : (t : Tables) (bytes : List ℕ) (old mid new : Found) (moves moves' : List (Option ℕ)) (i j : ℕ)
    → RowsFrom t bytes old mid moves i → RowsFrom t bytes mid new moves' j → RowsFrom t bytes old new moves' j
rows_more t bytes old mid new moves moves' i j h k = record {
  extends = extends_more old mid new h.extends k.extends;
  sets_kept =
      λ top below. k.sets_kept top (h.sets_kept top below);
  rows = k.rows;
}

-- none so far
pub rows_same : (t : Tables) (bytes : List ℕ) (found : Found) (moves : List (Option ℕ)) (i : ℕ) → RowsPass t bytes found moves i
    → RowsFrom t bytes found found moves i
rows_same t bytes found moves i h = record { extends = extends_same found; sets_kept = λ top below. below; rows = h }

-- the start of a set is listed
pub start_rows : (t : Tables) (bytes : List ℕ) (old new : Found) (moves : List (Option ℕ)) (starts : List ℕ) (s state : ℕ) → IsTable t
    → s < length t.starts → AreExplored t bytes old moves starts s → IsPlaced old (row t.starts s)
    (record { set = s; text = [] }) new state → RowsPass t bytes new moves (length old.sets)
start_rows t bytes old new moves starts s state table lt h p =
    let path : Path = record { set = s; text = [] } in
    let own : List ℕ = row t.starts s in
    let g : Extends old new = place_extends old new own path state p in
    let before : AllBefore old.paths path = λ j u at. inl (h.sets_below j u at) in
    let len : length old.paths ≡ length old.sets = h.rows.found_ok.len in
    let n : NewState t old own path = record {
      before = before;
      places = table.starts s;
      each = inl (record {
        set = s;
        here = push_last old.sets own;
        here_path = pushed_at old.paths path (length old.sets)
            (sym len);
        below = lt;
      });
    } in
    record {
      within = g.len;
      found_ok = place_found t old new own path state n h.rows.found_ok p;
      ready = λ less. elim p.change [
        | inl same ↦ absurd (omega (arith, ap (λ z. length z.sets) same))
        | inr (last, same) ↦ record {
          set = own;
          path = path;
          at = subst (λ z. slice_get z.sets (length old.sets) ≡ Some own) (sym same) (push_last old.sets own);
          at_path = subst (λ z. slice_get z.paths (length old.sets) ≡ Some path) (sym same)
              (pushed_at old.paths path (length old.sets) (sym len));
          ahead = λ b. place_before old new own path (on path b) state p (λ j u at. inl (h.sets_below j u at))
              (inr (refl, inl (omega arith)));
        }
      ];
      are_moves = moves_extend t bytes old new moves (length old.sets) 0 len g within h.rows.are_moves;
    }
  where
    within : (j k : ℕ) → (j < length old.sets) ⊎ ((j ≡ length old.sets) × (k < 0)) → j < length old.sets
    within j k (inl less) = less
    within j k (inr (e, none)) = absurd (omega arith)

-- and paths begin at one set more
start_sets : (t : Tables) (bytes : List ℕ) (old new : Found) (moves : List (Option ℕ)) (starts own : List ℕ) (s state : ℕ)
    → AreExplored t bytes old moves starts s → IsPlaced old own (record { set = s; text = [] }) new state → SetsBelow (s + 1) new
start_sets t bytes old new moves starts own s state h p k u at = elim p.change [
  | inl same ↦ (let b = h.sets_below k u (subst (λ z. slice_get z.paths k ≡ Some u) same at) in omega arith)
  | inr (last, same) ↦ elim (at_push old.paths (record { set = s; text = [] }) u k (subst (λ z. slice_get z.paths k ≡ Some u) same at)) [
    | inl f ↦ (let b = h.sets_below k u f in omega arith)
    | inr (_, f) ↦ subst (λ z. z.set < s + 1) f (omega arith)
  ]
]

-- one set more
pub explored_more : (t : Tables) (bytes : List ℕ) (old mid new : Found) (moves moves' : List (Option ℕ)) (starts : List ℕ) (s state : ℕ)
    → AreExplored t bytes old moves starts s → IsPlaced old (row t.starts s) (record { set = s; text = [] }) mid state
    → RowsFrom t bytes mid new moves' (length new.sets) → length new.sets ≤ 2 ^ count_of t → AreExplored t bytes new moves'
    (starts ++ state ∷ []) (s + 1)
explored_more t bytes old mid new moves moves' starts s state h p r few =
    let path : Path = record { set = s; text = [] } in
    let own : List ℕ = row t.starts s in
    let g : Extends old new = extends_more old mid new (place_extends old mid own path state p) r.extends in
    let target = place_target old mid own path state h.rows.found_ok.len (λ j u at. inl (h.sets_below j u at)) p in
    record {
      few = few;
      rows = r.rows;
      sets_below = r.sets_kept (s + 1) (start_sets t bytes old mid moves starts own s state h p);
      starts_len = omega (arith, h.starts_len, length-append starts (state ∷ []));
      starts_at = λ j lt. elim (cases_lt j s) [
        | inl less ↦
            let x = h.starts_at j less in
            rw (get_or_append_left starts (state ∷ []) 0 j (omega (arith, h.starts_len)))
            (record {
              path = x.path;
              at = g.sets (get_or starts j 0) (row t.starts j) x.at;
              at_path = g.paths
                  (get_or starts j 0) x.path x.at_path;
              least = x.least;
            })
        | inr past ↦
            let e : j ≡ s = omega arith in
            subst (λ z. StartsAt t new z (get_or (starts ++ state ∷ []) z 0)) (sym e)
            (rw (get_or_push starts state 0 s h.starts_len)
            (record {
              path = target.own;
              at = r.extends.sets state own p.here;
              at_path = r.extends.paths state target.own
                  target.at;
              least = target.least;
            }))
      ];
    }

-- nothing is found yet
pub explored_none : (t : Tables) (bytes : List ℕ) (found : Found) → found.sets ≡ [] → found.paths ≡ [] → AreExplored t bytes found [] [] 0
explored_none t bytes found e f =
    from found.sets found.paths e f
  where
    empty : AreExplored t bytes (record { sets = []; paths = [] }) [] [] 0
    empty = record {
      few = omega arith;
      rows = record {
        within = omega arith;
        found_ok = record {
          len = refl;
          places = λ j set at. absurd (nothing_at set j at);
          each = λ j lt. absurd (omega arith);
          sorted =
              λ i j u v lt at at'. absurd (nothing_at v j at');
        };
        ready = λ lt. absurd (omega arith);
        are_moves = record { len = omega arith; lead = λ j k set path which below at at_path. absurd (nothing_at set j at) };
      };
      sets_below = λ j path at. absurd (nothing_at path j at);
      starts_len = refl;
      starts_at = λ j lt. absurd (omega arith);
    }

    from : (xs : List (List ℕ)) (ps : List Path) → xs ≡ [] → ps ≡ [] → AreExplored t bytes (record { sets = xs; paths = ps }) [] [] 0
    from [] [] e f = empty
    from [] (p ∷ ps) e f = cc
    from (x ∷ xs) ps e f = cc
