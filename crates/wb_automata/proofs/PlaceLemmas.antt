-- What is found when a state is listed: the old states stay, and a new one comes after them in the order of its path.
use Rattle.std.proofs.Common.{◌≡◌, ℕ, ◌<◌, List, [], ◌∷◌, ◌++◌, refl, sym, ◌∙◌, ap, subst, arith, ◌⊎◌, inl, inr, Some, length, get_or}
use Rattle.std.proofs.Common.{length-append}
use Rattle.std.specs.Prelude.{slice_get, Contains}
use Rattle.std.proofs.lemmas.Option.{slice_get-get_or, slice_get_within}
use Rattle.std.proofs.lemmas.Bool.{cases_lt}
use Rattle.wb_lemmas.proofs.Places.{append_keeps, at_push, push_last}
use Rattle.wb_automata.specs.declared.predecessor.Predecessor.{Predecessor}
use Rattle.wb_automata_positions.specs.declared.tables.Tables.{Tables}
use Rattle.wb_automata.specs.Automata.{Path, IsEarlier}
use Rattle.wb_automata_positions.specs.Rows.{row}
use Rattle.wb_automata_positions.specs.Transitions.{IsPlaceList, count_of}
use Rattle.wb_automata.specs.Inner.Found.{Found, on, pushed, IsPlaced, AllBefore, IsSetStart, IsChild, AreFound, Extends}
use Rattle.wb_automata.specs.Paths.{path_by, grown, paths_of}
use Rattle.wb_automata.proofs.OrderLemmas.{IsLatest}

pub grown_more : (paths : List Path) (os : List Predecessor) (o : Predecessor) → grown paths (os ++ o ∷ []) ≡ grown paths os ++ path_by
    (grown paths os) o ∷ []
grown_more paths [] o = refl
grown_more paths (p ∷ os) o = grown_more (paths ++ path_by paths p ∷ []) os o

-- the paths after one more predecessor
pub paths_more : (os : List Predecessor) (o : Predecessor) → paths_of (os ++ o ∷ []) ≡ paths_of os ++ path_by (paths_of os) o ∷ []
unfolding paths_of
paths_more os o = grown_more [] os o

pub paths_none : paths_of [] ≡ []
unfolding paths_of
paths_none = refl

-- the element that was pushed, at its place
pub pushed_at : {X : Type 0} (xs : List X) (y : X) (j : ℕ) → j ≡ length xs → slice_get (xs ++ y ∷ []) j ≡ Some y
pushed_at xs y j last = ap (slice_get (xs ++ y ∷ [])) last ∙ push_last xs y

pub extends_same : (found : Found) → Extends found found
extends_same found = record { sets = λ j set e. e; paths = λ j path e. e; len = omega arith }

pub extends_more : (a b c : Found) → Extends a b → Extends b c → Extends a c
extends_more a b c g h = record {
  sets = λ j set e. h.sets j set (g.sets j set e);
  paths = λ j path e. h.paths j path
      (g.paths j path e);
  len = omega (arith, g.len, h.len);
}

-- a state more
pushed_extends : (old : Found) (set : List ℕ) (path : Path) → Extends old (pushed old set path)
pushed_extends old set path = record {
  sets = λ j s h. append_keeps old.sets (set ∷ []) j s h;
  paths = λ j t h. append_keeps old.paths (path ∷ []) j t h;
  len = omega (arith, length-append old.sets (set ∷ []));
}

pub place_extends : (old new : Found) (set : List ℕ) (path : Path) (i : ℕ) → IsPlaced old set path new i → Extends old new
place_extends old new set path i p = elim p.change [
  | inl e ↦ subst (Extends old) (sym e) (extends_same old)
  | inr (at, e) ↦ subst (Extends old) (sym e) (pushed_extends old set path)
]

-- what a state was found from stays
each_extends : (t : Tables) (old new : Found) (j : ℕ) → Extends old new → IsSetStart t old j ⊎ IsChild t old j
    → IsSetStart t new j ⊎ IsChild t new j
each_extends t old new j g (inl s) = inl (record {
  set = s.set;
  here = g.sets j (row t.starts s.set) s.here;
  here_path = g.paths j
      (record { set = s.set; text = [] }) s.here_path;
  below = s.below;
})
each_extends t old new j g (inr c) = inr (record {
  from = c.from;
  byte = c.byte;
  set = c.set;
  path = c.path;
  own = c.own;
  earlier = c.earlier;
  at = g.sets c.from c.set c.at;
  at_path = g.paths c.from c.path c.at_path;
  here = g.sets j c.own c.here;
  here_path = g.paths j (on c.path c.byte) c.here_path;
  exact = c.exact;
})

-- what a new state is found from
pub record NewState (t : Tables) (old : Found) (own : List ℕ) (path : Path) : Type 0 where
  pub before : AllBefore old.paths path
  pub places : IsPlaceList (count_of t) own
  pub each : IsSetStart t (pushed old own path) (length old.sets) ⊎ IsChild t (pushed old own path) (length old.sets)

push_found : (t : Tables) (old : Found) (own : List ℕ) (path : Path) → NewState t old own path → AreFound t old → AreFound t
    (pushed old own path)
push_found t old own path s h = record {
  len = omega (arith, h.len, length-append old.sets (own ∷ []), length-append old.paths (path ∷ []));
  places = λ j set at. elim (at_push old.sets own set j at) [
    | inl e ↦ h.places j set e
    | inr (_, e) ↦ subst
        (IsPlaceList (count_of t)) e s.places
  ];
  each = λ j lt. elim (cases_lt j (length old.sets)) [
    | inl less ↦ each_extends t old (pushed old own path) j (pushed_extends old own path) (h.each j less)
    | inr past ↦
        let same : length old.sets ≡ j = omega (arith, length-append old.sets (own ∷ [])) in
        subst (λ z. IsSetStart t (pushed old own path) z ⊎ IsChild t (pushed old own path) z) same s.each
  ];
  sorted = λ i j u v lt at at'. elim (at_push old.paths path v j at') [
    | inl e ↦ elim (at_push old.paths path u i at) [
      | inl f ↦ h.sorted i j u v lt f e
      | inr (same, f) ↦ absurd (omega (arith, slice_get_within old.paths j v e))
    ]
    | inr (last, e) ↦ elim (at_push old.paths path u i at) [
      | inl f ↦ subst (IsEarlier u) e (s.before i u f)
      | inr (same, f) ↦ absurd (omega arith)
    ]
  ];
}

pub place_found : (t : Tables) (old new : Found) (own : List ℕ) (path : Path) (i : ℕ) → NewState t old own path → AreFound t old
    → IsPlaced old own path new i → AreFound t new
place_found t old new own path i s h p = elim p.change [
  | inl e ↦ subst (AreFound t) (sym e) h
  | inr (at, e) ↦ subst (AreFound t) (sym e) (push_found t old own path s h)
]

-- the path of the state that was listed isn't later than the one by which it was found now
pub record Target (new : Found) (w : Path) (i : ℕ) : Type 0 where
  pub own : Path
  pub at : slice_get new.paths i ≡ Some own
  pub least : IsLatest w own

pub place_target : (old new : Found) (set : List ℕ) (w : Path) (i : ℕ) → length old.paths ≡ length old.sets → AllBefore old.paths w
    → IsPlaced old set w new i → Target new w i
place_target old new set w i len before p = elim p.change [
  | inl e ↦
      let lt : i < length old.paths = omega (
        arith,
        slice_get_within old.sets i set
            (subst (λ f. slice_get f.sets i ≡ Some set) e p.here),
      ) in
      let own : Path = get_or old.paths i w in
      let at : slice_get old.paths i ≡ Some own = slice_get-get_or old.paths i w lt in
      record { own = own; at = subst (λ f. slice_get f.paths i ≡ Some own) (sym e) at; least = inr (before i own at) }
  | inr (last, e) ↦ record {
    own = w;
    at = subst (λ f. slice_get f.paths i ≡ Some w) (sym e)
        (pushed_at old.paths w i (omega arith));
    least = inl refl;
  }
]

-- a path that is later than all the old ones and than the new one is later than all
pub place_before : (old new : Found) (set : List ℕ) (w v : Path) (i : ℕ) → IsPlaced old set w new i → AllBefore old.paths v → IsEarlier w v
    → AllBefore new.paths v
place_before old new set w v i p before lt = elim p.change [
  | inl e ↦ subst (λ f. AllBefore f.paths v) (sym e) before
  | inr (last, e) ↦ subst (λ f. AllBefore f.paths v) (sym e) (λ j u at. elim (at_push old.paths w u j at) [
    | inl f ↦ before j u f
    | inr
        (_, f) ↦ subst (λ z. IsEarlier z v) f lt
  ])
]

pub some_in : (xs : List ℕ) → (xs ≡ [] → ⊥) → (q : ℕ) × Contains xs q
some_in [] h = absurd (h refl)
some_in (x ∷ xs) h = (x, (0, omega (arith, length_more x xs), refl))
  where
    length_more : (x : ℕ) (xs : List ℕ) → 0 < length (x ∷ xs)
    length_more x xs = omega arith
