-- The leaves that hold each byte, as they are gone through.
use Rattle.std.proofs.Common.{◌≡◌, ℕ, zero, suc, ◌+◌, ◌-◌, ◌*◌, ◌≤◌, ◌<◌, Bool, true, false, List, [], ◌∷◌, ◌++◌, refl, sym, ◌∙◌, ap, subst, arith, ◌⊎◌, inl, inr}
use Rattle.std.proofs.Common.{Option, Some, None, add-one, append_assoc, append-nil, length, length-append, get_or, take, replicate}
use Rattle.std.specs.Prelude.{slice_get, ◌↔◌, Contains}
use Rattle.std.proofs.lemmas.List.{get_or_append_left, get_or-replicate, length-replicate, replicate-append-replicate}
use Rattle.std.proofs.lemmas.Option.{slice_get-get_or, slice_get_within, same_Some}
use Rattle.std.proofs.lemmas.Bool.{cases_lt, true≢false}
use Rattle.wb_lemmas.proofs.Places.{at_one, at_once}
use Rattle.wb_regex.specs.declared.node.RegexNode.{RegexNode}
use Rattle.wb_automata_positions.specs.declared.tables.Tables.{Tables}
use Rattle.wb_automata_positions.specs.Leaves.{holds_of, node_holds}
use Rattle.wb_automata_positions.specs.Rising.{AreRising}
use Rattle.wb_automata_positions.specs.Transitions.{IsPlaceList, IsTable}
use Rattle.wb_automata_positions.proofs.MachineLemmas.{Passed, none_taken, pass_end, pass_places, pass_skip, pass_step}
use Rattle.wb_automata_positions.proofs.StartLemmas.{rising_none}
use Rattle.wb_automata.specs.Automata.{Path, IsEarlier}
use Rattle.wb_automata.specs.Inner.Exploring.{IsMove, RowPass}
use Rattle.wb_automata.specs.Inner.Found.{Found, IsMoved, IsPlaced, IsTo, Reads, on}
use Rattle.wb_automata.specs.Inner.Ways.{AreListed, AreWays, HasMoved, HasPassed, HasStepped, IsAgain, IsListMoved, IsOnWay, IsPut, IsWay}
use Rattle.wb_automata.proofs.ChainLemmas.{alone, one_alone}
use Rattle.wb_automata.proofs.OrderLemmas.{earlier_last, earlier_next}
use Rattle.wb_automata.proofs.PairLemmas.{none_in}
use Rattle.wb_automata.proofs.StateLemmas.{moves_push, row_step}

-- nothing is put yet
pub passed_none : (node : RegexNode) (bytes : List ℕ) (q : ℕ) (chains : List (List ℕ)) (ends : List ℕ)
    → HasPassed node bytes q 0 chains ends chains ends
passed_none node bytes q chains ends = record { len = refl; put = λ c list lt. absurd (omega arith); left = λ c list off at. at }

-- one byte more holds the leaf
pub passed_put : (node : RegexNode) (bytes : List ℕ) (q k : ℕ) (old mid new : List (List ℕ)) (olds mids news : List ℕ)
    → node_holds node (get_or bytes k 0) ≡ true → HasPassed node bytes q k old olds mid mids → IsPut k q mid mids new news
    → HasPassed node bytes q (k + 1) old olds new news
passed_put node bytes q k old mid new olds mids news holds h p = record {
  len = p.len ∙ h.len;
  put = λ c list lt is at. elim (cases_lt c k) [
    | inl less ↦ p.others c (list ++ q ∷ []) (λ e. absurd (omega arith)) (h.put c list less is at)
    | inr past ↦ (let e : c ≡ k = omega arith in subst (λ z. slice_get new (get_or news z 0) ≡ Some (list ++ q ∷ [])) (sym e)
        (p.here list (subst (λ z. slice_get mid (get_or mids z 0) ≡ Some list) e (h.left c list (λ less. absurd (omega arith)) at))))
  ];
  left = λ c list off at. p.others c list (λ e. true≢false (sym (subst (λ z. node_holds node (get_or bytes z 0) ≡ true) (sym e) holds)
      ∙ off (omega arith))) (h.left c list (λ less. off (omega arith)) at);
}

-- one byte more doesn't
pub passed_skip : (node : RegexNode) (bytes : List ℕ) (q k : ℕ) (old new : List (List ℕ)) (olds news : List ℕ)
    → node_holds node (get_or bytes k 0) ≡ false → HasPassed node bytes q k old olds new news
    → HasPassed node bytes q (k + 1) old olds new news
passed_skip node bytes q k old new olds news off h = record {
  len = h.len;
  put = λ c list lt is at. elim (cases_lt c k) [
    | inl less ↦ h.put c list less is at
    | inr past ↦ (let e : c ≡ k = omega arith in absurd (true≢false (sym is ∙ ap (λ z. node_holds node (get_or bytes z 0)) e ∙ off)))
  ];
  left = λ c list none at. h.left c list (λ less. none (omega arith)) at;
}

-- none of the bytes from one to another is held
pub passed_over : (node : RegexNode) (bytes : List ℕ) (q c d : ℕ) (old new : List (List ℕ)) (olds news : List ℕ) → c ≤ d
    → ((k : ℕ) → c ≤ k → k < d → node_holds node (get_or bytes k 0) ≡ false) → HasPassed node bytes q c old olds new news
    → HasPassed node bytes q d old olds new news
passed_over node bytes q c d old new olds news le off h = record {
  len = h.len;
  put = λ k list lt is at. elim (cases_lt k c) [
    | inl less ↦ h.put k list less is at
    | inr past ↦ absurd (true≢false (sym is ∙ off k (omega arith) lt))
  ];
  left = λ k list none at. h.left k list (λ less. none (omega arith)) at;
}

pub passed_step : (node : RegexNode) (bytes : List ℕ) (q c d : ℕ) (old mid new : List (List ℕ)) (olds mids news : List ℕ)
    → HasPassed node bytes q c old olds mid mids → HasStepped node bytes q c d mid mids new news → HasPassed node bytes q d old olds new news
passed_step node bytes q c d old mid new olds mids news h s = elim s.change [
  | inl (e, holds, put) ↦ subst (λ z. HasPassed node bytes q z old olds new news) (sym e)
      (passed_put node bytes q c old mid new olds mids news holds h put)
  | inr (e, f, off) ↦ subst (λ z. HasPassed node bytes q d old olds z news) (sym e)
      (subst (λ z. HasPassed node bytes q d old olds mid z) (sym f)
      (passed_over node bytes q c d old mid olds mids (let lt = s.further in omega arith) off h))
]

-- the bytes up to a number from which the node holds none are not held
pub stepped_over : (node : RegexNode) (bytes : List ℕ) (q c d to : ℕ) (chains : List (List ℕ)) (ends : List ℕ) → AreRising bytes
    → c + 1 ≤ d → d ≤ length bytes → node_holds node (get_or bytes c 0) ≡ false
    → ((b : ℕ) → get_or bytes c 0 ≤ b → b < to → node_holds node b ≡ false)
    → ((k : ℕ) → c + 1 ≤ k → k < d → get_or bytes k 0 < to) → HasStepped node bytes q c d chains ends chains ends
stepped_over node bytes q c d to chains ends rising le within off none below = record {
  further = omega arith;
  within = within;
  change = inr (
    refl,
    refl,
    λ k from lt. elim (cases_lt c k) [
      | inl less ↦
          (let up : get_or bytes c 0 < get_or bytes k 0 = rising c k less (omega arith) in
          none (get_or bytes k 0) (omega arith) (below k (omega arith) lt))
      | inr past ↦ (let e : k ≡ c = omega arith in subst (λ z. node_holds node (get_or bytes z 0) ≡ false) (sym e) off)
    ],
  );
}

-- the list of the next byte is there
pub passed_below : (node : RegexNode) (bytes : List ℕ) (q k count : ℕ) (old new : List (List ℕ)) (olds news : List ℕ)
    → AreListed old olds count → k < count → HasPassed node bytes q k old olds new news → get_or news k 0 < length new
passed_below node bytes q k count old new olds news are lt h = slice_get_within new (get_or news k 0) (get_or old (get_or olds k 0) [])
    (h.left k (get_or old (get_or olds k 0) []) (λ less. absurd (omega arith)) (slice_get-get_or old (get_or olds k 0) [] (are.below k lt)))

-- no leaf is gone through yet
pub ways_none : (nodes : List RegexNode) (bytes leaves : List ℕ) → AreWays nodes bytes leaves ([] ∷ []) (replicate (length bytes) 0) 0
ways_none nodes bytes leaves = record {
  listed = record {
    len = length-replicate (length bytes) 0;
    below = λ c lt. subst (λ z. z < length alone) (sym (get_or-replicate (length bytes) c 0 0 lt)) (omega (arith, one_alone));
  };
  each = λ c list lt at.
      let e : [] ≡ list = (at_one [] list (get_or (replicate (length bytes) 0) c 0) at).1 in
      subst (λ z. IsWay nodes (get_or bytes c 0) (take 0 leaves) z) e (record {
        exact = λ q. (λ has. absurd (none_in q has), λ (is, has). absurd (none_taken leaves q has));
        rising = rising_none;
      });
}

-- one leaf more
pub ways_more : (nodes : List RegexNode) (bytes leaves : List ℕ) (k m : ℕ) (node : RegexNode) (old new : List (List ℕ)) (olds news : List ℕ)
    → IsPlaceList m leaves → k < length leaves → ((b : ℕ) → holds_of nodes (get_or leaves k 0) b ≡ node_holds node b)
    → AreWays nodes bytes leaves old olds k → HasPassed node bytes (get_or leaves k 0) (length bytes) old olds new news
    → AreWays nodes bytes leaves new news (k + 1)
ways_more nodes bytes leaves k m node old new olds news places lt is h p = record {
  listed = record {
    len = p.len ∙ h.listed.len;
    below = λ c below. let (list, at, way) = next c below in slice_get_within new (get_or news c 0) list at;
  };
  each = λ c list below at.
      let (own, here, way) = next c below in
      subst (λ z. IsWay nodes (get_or bytes c 0) (take (k + 1) leaves) z) (at_once new (get_or news c 0) own list here at) way;
}
  where
    q : ℕ
    q = get_or leaves k 0

    way_of : (b : ℕ) (list : List ℕ) (i : ℕ) → Passed (λ p. holds_of nodes p b) leaves list i → IsWay nodes b (take i leaves) list
    way_of b list i h = record { exact = h.exact; rising = h.rising }

    passed_of : (b : ℕ) (list : List ℕ) (i : ℕ) → IsWay nodes b (take i leaves) list → Passed (λ p. holds_of nodes p b) leaves list i
    passed_of b list i h = record { exact = h.exact; rising = h.rising }

    by_cases : (c : ℕ) (list : List ℕ) (holds : Bool) → c < length bytes → node_holds node (get_or bytes c 0) ≡ holds
        → slice_get old (get_or olds c 0) ≡ Some list → IsWay nodes (get_or bytes c 0) (take k leaves) list
        → (all : List ℕ) × (slice_get new (get_or news c 0) ≡ Some all) × IsWay nodes (get_or bytes c 0) (take (k + 1) leaves) all
    by_cases c list true below e at way = (
      list ++ q ∷ [],
      p.put c list below e at,
      way_of (get_or bytes c 0) (list ++ q ∷ []) (k + 1) (pass_step (λ p. holds_of nodes p (get_or bytes c 0)) leaves list k places.rising lt
          (is (get_or bytes c 0) ∙ e) (passed_of (get_or bytes c 0) list k way)),
    )
    by_cases c list false below e at way = (
      list,
      p.left c list (λ less. e) at,
      way_of (get_or bytes c 0) list (k + 1) (pass_skip (λ p. holds_of nodes p (get_or bytes c 0)) leaves list k lt
          (is (get_or bytes c 0) ∙ e) (passed_of (get_or bytes c 0) list k way)),
    )

    next : (c : ℕ) → c < length bytes
        → (all : List ℕ) × (slice_get new (get_or news c 0) ≡ Some all) × IsWay nodes (get_or bytes c 0) (take (k + 1) leaves) all
    next c below =
        let at = slice_get-get_or old (get_or olds c 0) [] (h.listed.below c below) in
        by_cases c (get_or old (get_or olds c 0) []) (node_holds node (get_or bytes c 0)) below refl at
        (h.each c (get_or old (get_or olds c 0) []) below at)

-- a byte that the same leaves hold as an earlier one leads to the same state
move_alike : (t : Tables) (found : Found) (set : List ℕ) (path : Path) (a b : ℕ) (o : Option ℕ) → a < b
    → ((q : ℕ) → Reads t set a q ↔ Reads t set b q) → IsMove t found set path a o → IsMove t found set path b o
move_alike t found set path a b None lt same h = λ q r. h q ((same q).1 r)
move_alike t found set path a b (Some j) lt same h = record {
  next = h.next;
  own = h.own;
  at = h.at;
  at_path = h.at_path;
  exact = λ q. (λ has. (same q).0 ((h.exact q).0 has), λ r. (h.exact q).1 ((same q).1 r));
  some = h.some;
  least = elim h.least [
    | inl e ↦ inr (subst (λ z. IsEarlier z (on path b)) (sym e) (earlier_last path a b lt))
    | inr less ↦ inr (earlier_next h.own (on path a) (on path b) less (earlier_last path a b lt))
  ];
}

-- a move is put after the others of its row
pub row_moved : (t : Tables) (bytes : List ℕ) (old mid new : Found) (i c : ℕ) (ahead : List ℕ) (chains : List (List ℕ)) (ends : List ℕ)
    (moves news : List (Option ℕ)) (w : Path) → IsTable t → AreRising bytes → c < length bytes
    → AreWays t.nodes.items bytes ahead chains ends (length ahead) → (h : RowPass t bytes old mid i ahead moves c)
    → w ≡ on h.path (get_or bytes c 0) → HasMoved c chains ends w mid moves new news → RowPass t bytes old new i ahead news (c + 1)
row_moved t bytes old mid new i c ahead chains ends moves news w table rising lt ways h e moved =
    let list : List ℕ = get_or chains (get_or ends c 0) [] in
    let at : slice_get chains (get_or ends c 0) ≡ Some list = slice_get-get_or chains (get_or ends c 0) [] (ways.listed.below c lt) in
    let way = ways.each c list lt at in
    elim moved [
      | inl g ↦ by_same list at way g
      | inr f ↦ (let m = f list at in subst (λ z. RowPass t bytes old new i ahead z (c + 1)) (sym m.moves)
          (row_step t bytes old mid new i ahead moves c m.to w table rising lt h e (is_moved m.to list way m.is)))
    ]
  where
    whole : (b : ℕ) (list : List ℕ) → IsWay t.nodes.items b (take (length ahead) ahead) list
        → (q : ℕ) → Contains list q ↔ ((holds_of t.nodes.items q b ≡ true) × Contains ahead q)
    whole b list way = pass_end (λ p. holds_of t.nodes.items p b) ahead list (length ahead) (omega arith)
        (record { exact = way.exact; rising = way.rising })

    reads : (b : ℕ) (list : List ℕ) → IsWay t.nodes.items b (take (length ahead) ahead) list
        → (q : ℕ) → Contains list q ↔ Reads t h.set b q
    reads b list way q = (
      λ has. let (x, y) = (whole b list way q).0 has in (x, (h.is q).0 y),
      λ (x, y). (whole b list way q).1 (x, (h.is q).1 y),
    )

    member : (list : List ℕ) → ¬ (list ≡ []) → (q : ℕ) × Contains list q
    member [] some = absurd (some refl)
    member (q ∷ list) some = (q, (0, omega arith, refl))

    is_moved : (o : Option ℕ) (list : List ℕ) → IsWay t.nodes.items (get_or bytes c 0) (take (length ahead) ahead) list → IsTo mid list w new o
        → IsMoved t.nodes.items ahead w (get_or bytes c 0) mid new o
    is_moved None list way (same, none) = (
      same,
      λ q holds has. none_in q (subst (λ z. Contains z q) none ((whole (get_or bytes c 0) list way q).1 (holds, has))),
    )
    is_moved (Some j) list way (placed, some) = record {
      next = list;
      placed = placed;
      exact = whole (get_or bytes c 0) list way;
      some = member list some;
      places = pass_places (λ p. holds_of t.nodes.items p (get_or bytes c 0)) (length t.nodes.items) ahead list (length ahead) (omega arith)
          h.places (record { exact = way.exact; rising = way.rising });
    }

    by_same : (list : List ℕ) → slice_get chains (get_or ends c 0) ≡ Some list
        → IsWay t.nodes.items (get_or bytes c 0) (take (length ahead) ahead) list → IsAgain c ends mid moves new news
        → RowPass t bytes old new i ahead news (c + 1)
    by_same list at way g =
        let first_lt : g.first < length bytes = (let a = g.earlier in omega arith) in
        let first_way = ways.each g.first list first_lt (subst (λ z. slice_get chains z ≡ Some list) (sym g.alike) at) in
        let o : Option ℕ = get_or moves (length moves - (c - g.first)) None in
        let place : i * length bytes + g.first ≡ length moves - (c - g.first) = (let n = h.are_moves.len in let a = g.earlier in omega arith) in
        let there : IsMove t mid h.set h.path (get_or bytes g.first 0) o = subst
        (λ z. IsMove t mid h.set h.path (get_or bytes g.first 0) (get_or moves z None)) place
        (h.are_moves.lead i g.first h.set h.path (inr (refl, g.earlier)) first_lt h.at h.at_path) in
        let here : IsMove t mid h.set h.path (get_or bytes c 0) o = move_alike t mid h.set h.path (get_or bytes g.first 0) (get_or bytes c 0) o
        (rising g.first c g.earlier lt)
        (λ q. (
          λ r. (reads (get_or bytes c 0) list way q).0 ((reads (get_or bytes g.first 0) list first_way q).1 r),
          λ r. (reads (get_or bytes g.first 0) list first_way q).0 ((reads (get_or bytes c 0) list way q).1 r),
        )) there in
        let f : RowPass t bytes old mid i ahead (moves ++ o ∷ []) (c + 1) = record {
          set = h.set;
          path = h.path;
          at = h.at;
          at_path = h.at_path;
          is = h.is;
          places = h.places;
          extends = h.extends;
          sets_kept = h.sets_kept;
          found_ok = h.found_ok;
          are_moves = moves_push t bytes mid moves i c h.set h.path o lt h.at h.at_path h.are_moves here;
          edge = λ b up. h.edge b (λ k less. up k (omega arith));
        } in
        subst (λ z. RowPass t bytes old z i ahead news (c + 1)) (sym g.same)
        (subst (λ z. RowPass t bytes old mid i ahead z (c + 1)) (sym g.moves) f)

pub way_on : (t : Tables) (bytes : List ℕ) (old mid new : Found) (i c : ℕ) (chains : List (List ℕ)) (ends : List ℕ)
    (moves news : List (Option ℕ)) (w : Path) → IsTable t → AreRising bytes → c < length bytes
    → (h : IsOnWay t bytes old mid i moves chains ends c) → w ≡ on h.row.path (get_or bytes c 0)
    → HasMoved c chains ends w mid moves new news → IsOnWay t bytes old new i news chains ends (c + 1)
way_on t bytes old mid new i c chains ends moves news w table rising lt h e moved = record {
  ahead = h.ahead;
  row = row_moved t bytes old mid new i c h.ahead chains ends moves news w table rising lt h.ways h.row e moved;
  ways = h.ways;
}

-- there is a move then
pub moved_some : (c : ℕ) (chains : List (List ℕ)) (ends : List ℕ) (w : Path) (old new : Found) (olds news : List (Option ℕ))
    → get_or ends c 0 < length chains → HasMoved c chains ends w old olds new news → 0 < length news
moved_some c chains ends w old new olds news lt moved = elim moved [
  | inl g ↦ omega (arith, ap length g.moves, length-append olds (get_or olds (length olds - (c - g.first)) None ∷ []))
  | inr f ↦
      let m = f (get_or chains (get_or ends c 0) []) (slice_get-get_or chains (get_or ends c 0) [] lt) in
      omega (arith, ap length m.moves, length-append olds (m.to ∷ []))
]

-- further bytes with the list of one lead where that one leads
pub way_repeat : (t : Tables) (bytes : List ℕ) (old found : Found) (i first n : ℕ) (chains : List (List ℕ)) (ends : List ℕ)
    (moves : List (Option ℕ)) → IsTable t → AreRising bytes → first + 1 + n ≤ length bytes
    → ((k : ℕ) → first ≤ k → k < first + 1 + n → get_or ends k 0 ≡ get_or ends first 0)
    → IsOnWay t bytes old found i moves chains ends (first + 1)
    → IsOnWay t bytes old found i (moves ++ replicate n (get_or moves (length moves - 1) None)) chains ends (first + 1 + n)
way_repeat t bytes old found i first zero chains ends moves table rising fits same h =
    let e : first + 1 ≡ first + 1 + 0 = omega arith in
    subst (λ z. IsOnWay t bytes old found i z chains ends (first + 1 + 0)) (sym (append-nil moves))
    (subst (IsOnWay t bytes old found i moves chains ends) e h)
way_repeat t bytes old found i first (suc n) chains ends moves table rising fits same h =
    let o : Option ℕ = get_or moves (length moves - 1) None in
    let all : List (Option ℕ) = moves ++ replicate n o in
    let before : IsOnWay t bytes old found i all chains ends (first + 1 + n) = way_repeat t bytes old found i first n chains ends moves
    table rising (omega arith) (λ k le lt. same k le (omega arith)) h in
    let len : length moves ≡ i * length bytes + (first + 1) = h.row.are_moves.len in
    let place : length all - (first + 1 + n - first) ≡ length moves - 1 = omega
    (arith, length-append moves (replicate n o), length-replicate n o) in
    let last : get_or all (length all - (first + 1 + n - first)) None ≡ o = ap (λ z. get_or all z None) place
    ∙ get_or_append_left moves (replicate n o) None (length moves - 1) (omega arith) in
    let more : moves ++ replicate (suc n) o ≡ all ++ o ∷ [] = ap (λ z. moves ++ z)
    (sym (replicate-append-replicate n 1 o ∙ ap (λ z. replicate z o) (add-one n)))
    ∙ sym (append_assoc moves (replicate n o) (o ∷ [])) in
    let again : IsAgain (first + 1 + n) ends found all found (moves ++ replicate (suc n) o) = record {
      first = first;
      earlier = omega arith;
      alike = sym (same (first + 1 + n) (omega arith) (omega arith));
      same = refl;
      moves = more ∙ ap (λ z. all ++ z ∷ []) (sym last);
    } in
    let e : first + 1 + n + 1 ≡ first + 1 + suc n = omega arith in
    subst (IsOnWay t bytes old found i (moves ++ replicate (suc n) o) chains ends) e
    (way_on t bytes old found found i (first + 1 + n) chains ends all (moves ++ replicate (suc n) o)
    (on before.row.path (get_or bytes (first + 1 + n) 0)) table rising (omega arith) before refl (inl again))
