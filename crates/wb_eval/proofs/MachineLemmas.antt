-- What evaluation with a stack and a memo keeps, and that it counts exactly.
use Rattle.std.proofs.Common.{◌≡◌, ◌∙◌, ◌⊎◌, ◌<◌, ◌≤◌, ◌++◌, inl, inr, ℕ, List, [], ◌∷◌, length, refl, sym, subst, arith}
use Rattle.std.proofs.Common.{Contains}
use Rattle.std.proofs.Common.{slice_get, Some, length-append, get_or}
use Rattle.std.proofs.lemmas.List.{get_or_default}
use Rattle.std.proofs.lemmas.Option.{slice_get_within}
use Rattle.wb_base.specs.Different.{Differ}
use Rattle.wb_lemmas.proofs.Elements.{all_contained}
use Rattle.wb_lemmas.proofs.Members.{contains_at, contains_cases, contains_first, contains_later, contains_push, push_contains}
use Rattle.wb_lemmas.proofs.Members.{push_contains_last, nothing_in}
use Rattle.wb_lemmas.proofs.Places.{at_push}
use Rattle.wb_operations.specs.Operations.{Operations}
use Rattle.wb_values.specs.Tree.{Tree, Value}
use Rattle.wb_syntax_resolved.specs.declared.attribution.AttributionParts.{AttributionParts}
use Rattle.wb_eval_theory.proofs.CountLemmas.{no_more}
use Rattle.wb_eval_theory.proofs.AnswerLemmas.{one_node, one_answer}
use Rattle.wb_eval_theory.proofs.CycleLemmas.{nothing_needs_itself}
use Rattle.wb_eval_theory.proofs.DefinedLemmas.{needed_there, never_missing}
use Rattle.wb_eval_theory.proofs.LawLemmas.{setting_of}
use Rattle.wb_eval_theory.specs.Answers.{IsNodeAt, HasAnswer, by_walk, Ends, at_done, at_value, at_fault}
use Rattle.wb_eval_theory.specs.Evaluable.{IsEvaluable, IsAsked}
use Rattle.wb_eval_theory.specs.Instances.{Instance, home}
use Rattle.wb_eval_theory.specs.Needed.{Comes, here, after, ReadsNext, IsNeeded, itself, next, NeedsMoreThan}
use Rattle.wb_eval_theory.specs.Walks.{Outcome, value, fault, Walk, done, read, missing, walk_of}
use Rattle.wb_eval.specs.Inner.State.{start, Passed, at_once, by_read, Waiting, IsLeft, IsState, HasCome}

-- one more that isn't there keeps a list different
differ_more : {X : Type 0} (xs : List X) (x : X) → Differ xs → ¬ Contains xs x → Differ (xs ++ x ∷ [])
differ_more xs x d fresh y i j at there = by_place (at_push xs x y i at) (at_push xs x y j there) where
  by_place : ((slice_get xs i ≡ Some y) ⊎ ((i ≡ length xs) × (x ≡ y))) → ((slice_get xs j ≡ Some y) ⊎ ((j ≡ length xs) × (x ≡ y))) → i ≡ j
  by_place (inl p) (inl r) = d y i j p r
  by_place (inl p) (inr r) = absurd (fresh (subst (Contains xs) (sym r.1) (contains_at xs y i p)))
  by_place (inr p) (inl r) = absurd (fresh (subst (Contains xs) (sym p.1) (contains_at xs y j r)))
  by_place (inr p) (inr r) = p.0 ∙ sym r.0

module _ (a : AttributionParts) (operations : Operations) (top : Tree) (y : ℕ) where
  abbrev Is : Instance → Outcome → Type 0
  Is = HasAnswer a operations top

  abbrev Reading : Instance → Instance → Type 0
  Reading = ReadsNext a operations top

  abbrev Needed : Instance → Type 0
  Needed = IsNeeded a operations top (start a operations top y)

  abbrev Pass : List Instance → Walk → Walk → Type 0
  Pass = Passed a operations top y

  abbrev State : List Instance → Instance → List Instance → Type 0
  State = IsState a operations top y

  abbrev Come : List Instance → Instance → Walk → Type 0
  Come = HasCome a operations top y

  pub passed_more : {all : List Instance} {v w : Walk} (x : Instance) → Pass all v w → Pass (all ++ x ∷ []) v w
  passed_more x at_once = at_once
  passed_more {all} x (by_read {r = r} is has p) = by_read is (push_contains all x r has) (passed_more x p)

  pub come_more : {all : List Instance} {i : Instance} {w : Walk} (x : Instance) → Come all i w → Come (all ++ x ∷ []) i w
  come_more x c = record { at = c.at; is_node = c.is_node; passed = passed_more x c.passed }

  passed_on : {all : List Instance} {u : Walk} {r : Instance} {rest : Value → Walk} {v : Value} → Pass all u (read r rest) → Is r (value v)
      → Contains all r → Pass all u (rest v)
  passed_on at_once is has = by_read is has at_once
  passed_on (by_read z j p) is has = by_read z j (passed_on p is has)

  pub comes_of : {all : List Instance} {v w : Walk} → Pass all v w → Comes a operations top v w
  comes_of at_once = here
  comes_of (by_read is has p) = after is (comes_of p)

  ends_done : {all : List Instance} {u : Walk} {o : Outcome} → Pass all u (done o) → Ends a operations top u o
  ends_done at_once = at_done
  ends_done (by_read is has p) = at_value is (ends_done p)

  ends_fault : {all : List Instance} {u : Walk} {r : Instance} {rest : Value → Walk} {operation code : ℕ} → Pass all u (read r rest)
      → Is r (fault operation code) → Ends a operations top u (fault operation code)
  ends_fault at_once s = at_fault s
  ends_fault (by_read is has p) s = at_value is (ends_fault p s)

  -- all that a finished walk reads was entered
  covered_done : {all : List Instance} {u : Walk} {o : Outcome} {r : Instance} {rest : Value → Walk} → Pass all u (done o)
      → Comes a operations top u (read r rest) → Contains all r
  covered_done at_once c = absurd (no_read c) where
    no_read : {o : Outcome} {r : Instance} {rest : Value → Walk} → Comes a operations top (done o) (read r rest) → ⊥
    no_read c = elim c [ ]
  covered_done (by_read is has p) here = has
  covered_done {r = r} {rest = rest} (by_read {next = k} {v = v} is has p) (after {v = u} z c) =
      let e = one_answer a operations top z is in
      let same : u ≡ v = cc e in
      covered_done p (subst (λ (x : Value). Comes a operations top (k x) (read r rest)) same c)

  covered_fault : {all : List Instance} {u : Walk} {x : Instance} {l : Value → Walk} {operation code : ℕ} {r : Instance}
      {rest : Value → Walk}
      → Pass all u (read x l) → Contains all x → Is x (fault operation code) → Comes a operations top u (read r rest) → Contains all r
  covered_fault at_once has s here = has
  covered_fault at_once has s (after z c) = let e = one_answer a operations top z s in absurd (cc e)
  covered_fault (by_read is j p) has z here = j
  covered_fault {r = r} {rest = rest} (by_read {next = k} {v = v} is j p) has z (after {v = u} w c) =
      let e = one_answer a operations top w is in
      let same : u ≡ v = cc e in
      covered_fault p has z (subst (λ (x : Value). Comes a operations top (k x) (read r rest)) same c)

  waiting_more : (all : List Instance) (x r : Instance) (is : List Instance) → Waiting a operations top y all r is
      → Waiting a operations top y (all ++ x ∷ []) r is
  waiting_more all x r [] w = w
  waiting_more all x r (i ∷ is) w = (w.0, w.1, w.2, passed_more x w.3, waiting_more all x i is w.4)

  pub reads_here : {all : List Instance} {i r : Instance} {rest : Value → Walk} → Come all i (read r rest) → Reading i r
  reads_here {rest = rest} c = record { at = c.at; is_node = c.is_node; rest = rest; comes = comes_of c.passed }

  -- what waits needs what is above it
  to_top : (all : List Instance) (x z : Instance) (zs : List Instance) → Waiting a operations top y all z zs → Contains (z ∷ zs) x
      → IsNeeded a operations top x z
  to_top all x z [] w has = elim (contains_cases z x [] has) [
    | inl same ↦ subst (λ (u : Instance). IsNeeded a operations top u z) same itself
    | inr later ↦ absurd (nothing_in x later)
  ]
  to_top all x z (u ∷ us) w has = elim (contains_cases z x (u ∷ us) has) [
    | inl same ↦ subst (λ (g : Instance). IsNeeded a operations top g z) same itself
    | inr later ↦ next (to_top all x u us w.4 later) (record { at = w.0; is_node = w.2; rest = w.1; comes = comes_of w.3 })
  ]

  module _ (evaluable : IsEvaluable a operations) (asked : IsAsked a top y) where
    -- nothing that waits is read
    pub never_waiting : {all : List Instance} {i r : Instance} {is : List Instance} {rest : Value → Walk} → State all i is
        → Come all i (read r rest) → ¬ Contains (i ∷ is) r
    never_waiting {all} {i} {r} {is} s c has =
        let g = setting_of a operations top asked.nonterminal evaluable asked.fits in
        let need = s.needed i (s.has_this i (contains_first i is)) in
        nothing_needs_itself g i r (needed_there g y asked need) (reads_here c) (to_top all r i is s.waiting has)

    pub never_missed : {all : List Instance} {i : Instance} {is : List Instance} → State all i is → ¬ Come all i missing
    never_missed {i = i} {is = is} s c =
        let g = setting_of a operations top asked.nonterminal evaluable asked.fits in
        never_missing g y asked (s.needed i (s.has_this i (contains_first i is))) c.at c.is_node (comes_of c.passed)

    -- the start
    pub begins : State (start a operations top y ∷ []) (start a operations top y) []
    begins =
        let one : (x : Instance) → Contains (start a operations top y ∷ []) x → start a operations top y ≡ x
        = λ x has. elim (contains_cases (start a operations top y) x [] has) [ inl e ↦ e | inr none ↦ absurd (nothing_in x none) ] in
        record {
          different = λ x i j at there. let p = slice_get_within (start a operations top y ∷ []) i x at in
              let r = slice_get_within (start a operations top y ∷ []) j x there in omega (arith, p, r);
          needed = λ x has. subst Needed (one x has) itself;
          has_start = contains_first (start a operations top y) [];
          has_this = λ x has. has;
          waiting = refl;
          known = λ x has. inl has;
        }

  -- a value in the memo
  pub goes_on : {all : List Instance} {i r : Instance} {rest : Value → Walk} {v : Value} → Come all i (read r rest) → Contains all r
      → Is r (value v) → Come all i (rest v)
  goes_on c has is = record { at = c.at; is_node = c.is_node; passed = passed_on c.passed is has }

  -- an instance that wasn't read before: it is one more that is needed
  pub enters : {all : List Instance} {i r : Instance} {is : List Instance} {rest : Value → Walk} → State all i is → Come all i (read r rest)
      → ¬ Contains all r → State (all ++ r ∷ []) r (i ∷ is)
  enters {all} {i} {r} {is} {rest} s c fresh =
      let need = next (s.needed i (s.has_this i (contains_first i is))) (reads_here c) in
      record {
        different = differ_more all r s.different fresh;
        needed = λ x has. elim (contains_push all r x has) [ inl old ↦ s.needed x old | inr same ↦ subst Needed same need ];
        has_start = push_contains all r (start a operations top y) s.has_start;
        has_this = λ x has. elim (contains_cases r x (i ∷ is) has) [
          | inl same ↦ subst (Contains (all ++ r ∷ [])) same (push_contains_last all r)
          | inr later ↦ push_contains all r x (s.has_this x later)
        ];
        waiting = (c.at, rest, c.is_node, passed_more r c.passed, waiting_more all r i is s.waiting);
        known = λ x has. elim (contains_push all r x has) [
          | inl old ↦ elim (s.known x old) [
            | inl m ↦ inl (contains_later r x (i ∷ is) m)
            | inr m ↦ inr (record { value_of = m.value_of; answers = m.answers; covers = λ z rd. push_contains all r z (m.covers z rd) })
          ]
          | inr same ↦ inl (subst (Contains (r ∷ i ∷ is)) same (contains_first r (i ∷ is)))
        ];
      }

  pub answers_here : {all : List Instance} {i : Instance} {o : Outcome} → Come all i (done o) → Is i o
  answers_here c = by_walk c.is_node (ends_done c.passed)

  covered_here : {all : List Instance} {i : Instance} {o : Outcome} → Come all i (done o) → (x : Instance) → Reading i x → Contains all x
  covered_here {all} {i} c x rd =
      let same : rd.at ≡ c.at = one_node a operations top rd.is_node c.is_node in
      covered_done c.passed (subst (λ (t : Tree). Comes a operations top (walk_of operations a i t) (read x rd.rest)) same rd.comes)

  left_here : {all : List Instance} {i : Instance} {v : Value} → Come all i (done (value v)) → IsLeft a operations top y all i
  left_here {v = v} c = record { value_of = v; answers = answers_here c; covers = covered_here c }

  -- an instance with a value is left, and the one that waits goes on
  pub leaves : {all : List Instance} {i j : Instance} {is : List Instance} {v : Value} → State all i (j ∷ is) → Come all i (done (value v))
      → State all j is
  leaves {all} {i} {j} {is} {v} s c = record {
    different = s.different;
    needed = s.needed;
    has_start = s.has_start;
    has_this = λ x has. s.has_this x (contains_later i x (j ∷ is) has);
    waiting = s.waiting.4;
    known = λ x has. elim (s.known x has) [
      | inl m ↦ elim (contains_cases i x (j ∷ is) m) [
        | inl same ↦ inr (subst (IsLeft a operations top y all) same (left_here c))
        | inr later ↦ inl later
      ]
      | inr m ↦ inr m
    ];
  }

  -- the one that waits has a home
  pub waits : {all : List Instance} {i j : Instance} {is : List Instance} → State all i (j ∷ is) → (t : Tree)
      × IsNodeAt a operations top (home j) t
  waits s = let w = s.waiting in (w.0, w.2)

  -- what is closed under reads has all that is needed
  closed : (all : List Instance) → Contains all (start a operations top y)
      → ((x z : Instance) → Contains all x → Reading x z → Contains all z) → (x : Instance) → Needed x → Contains all x
  closed all h f x itself = h
  closed all h f x (next {i = i} n rd) = f i x (closed all h f i n) rd

  -- at the end: the answer, and no more is needed than was entered
  pub ends_value : {all : List Instance} {i : Instance} {v : Value} → State all i [] → Come all i (done (value v))
      → Is (start a operations top y) (value v) × ((x : Instance) → Needed x → Contains all x)
  ends_value {all} {i} {v} s c =
      (subst (λ (x : Instance). Is x (value v)) s.waiting (answers_here c), closed all s.has_start by_known) where
        by_known : (x z : Instance) → Contains all x → Reading x z → Contains all z
        by_known x z has rd = elim (s.known x has) [
          | inl m ↦ elim (contains_cases i x [] m) [
            | inl same ↦ covered_here c z (subst (λ (u : Instance). Reading u z) (sym same) rd)
            | inr none ↦ absurd (nothing_in x none)
          ]
          | inr m ↦ m.covers z rd
        ]

  -- a fault is the outcome of all that wait, and no more is needed than was entered
  record IsFaulted (all : List Instance) (operation code : ℕ) (x : Instance) : Type 0 where
    answers : Is x (fault operation code)
    covers : (z : Instance) → Reading x z → Contains all z

  fault_above : {all : List Instance} {operation code : ℕ} (i j : Instance) (t : Tree) (rest : Value → Walk)
      → IsNodeAt a operations top (home j) t → Pass all (walk_of operations a j t) (read i rest) → Contains all i
      → IsFaulted all operation code i → IsFaulted all operation code j
  fault_above {all} i j t rest n p has z = record { answers = by_walk n (ends_fault p z.answers); covers = λ x rd. covered x rd } where
    covered : (x : Instance) → Reading j x → Contains all x
    covered x rd =
        let same : rd.at ≡ t = one_node a operations top rd.is_node n in
        covered_fault p has z.answers
        (subst (λ (u : Tree). Comes a operations top (walk_of operations a j u) (read x rd.rest)) same rd.comes)

  fault_up : {all : List Instance} {operation code : ℕ} (i : Instance) (is : List Instance) → Waiting a operations top y all i is
      → ((x : Instance) → Contains (i ∷ is) x → Contains all x) → IsFaulted all operation code i
      → Is (start a operations top y) (fault operation code) × ((x : Instance) → Contains (i ∷ is) x → IsFaulted all operation code x)
  fault_up {all} {operation} {code} i [] w has z = (
    subst (λ (x : Instance). Is x (fault operation code)) w z.answers,
    λ x m. elim (contains_cases i x [] m) [
      | inl same ↦ subst (IsFaulted all operation code) same z
      | inr none ↦ absurd (nothing_in x none)
    ],
  )
  fault_up {all} {operation} {code} i (j ∷ js) w has z =
      let above = fault_above i j w.0 w.1 w.2 w.3 (has i (contains_first i (j ∷ js))) z in
      let r = fault_up j js w.4 (λ x m. has x (contains_later i x (j ∷ js) m)) above in (
        r.0,
        λ x m. elim (contains_cases i x (j ∷ js) m) [
          | inl same ↦ subst (IsFaulted all operation code) same z
          | inr later ↦ r.1 x later
        ],
      )

  pub ends_faulted : {all : List Instance} {i : Instance} {is : List Instance} {operation code : ℕ} → State all i is
      → Come all i (done (fault operation code))
      → Is (start a operations top y) (fault operation code) × ((x : Instance) → Needed x → Contains all x)
  ends_faulted {all} {i} {is} {operation} {code} s c = (up.0, closed all s.has_start by_known) where
    up : Is (start a operations top y) (fault operation code) × ((x : Instance) → Contains (i ∷ is) x → IsFaulted all operation code x)
    up = fault_up i is s.waiting s.has_this (record { answers = answers_here c; covers = covered_here c })

    by_known : (x z : Instance) → Contains all x → Reading x z → Contains all z
    by_known x z has rd = elim (s.known x has) [ inl m ↦ (up.1 x m).covers z rd | inr m ↦ m.covers z rd ]

  -- more than n are needed
  pub too_many : {all : List Instance} {i r : Instance} {is : List Instance} {rest : Value → Walk} (n : ℕ) → State all i is
      → Come all i (read r rest) → ¬ Contains all r → n ≤ length all → NeedsMoreThan a operations top (start a operations top y) n
  too_many {all} {r = r} n s c fresh le =
      let e = enters s c fresh in
      record {
        members = all ++ r ∷ [];
        count = let l = length-append all (r ∷ []) in omega (arith, le, l);
        different = e.different;
        needed = λ k d lt. needed_at k d lt e.needed;
      } where
        needed_at : (k : ℕ) (d : Instance) → k < length (all ++ r ∷ []) → ((x : Instance) → Contains (all ++ r ∷ []) x → Needed x)
            → Needed (get_or (all ++ r ∷ []) k d)
        needed_at k d lt f = f (get_or (all ++ r ∷ []) k d) (k, lt, get_or_default (all ++ r ∷ []) k (get_or (all ++ r ∷ []) k d) d lt)

  pub not_more : (all : List Instance) (n : ℕ) → ((x : Instance) → Needed x → Contains all x) → length all ≤ n
      → ¬ NeedsMoreThan a operations top (start a operations top y) n
  not_more all n f le m =
      let h = no_more m.members all m.different (λ x has. f x (all_contained Needed m.members x m.needed has)) in
      omega (arith, h, m.count, le)
