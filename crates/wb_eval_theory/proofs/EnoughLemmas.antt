-- What an answer rests on is finite: where an instance has an answer, finitely many instances are needed.
use Rattle.std.proofs.Common.{◌≡◌, ◌⊎◌, ◌≤◌, ◌++◌, inl, inr, ℕ, List, [], ◌∷◌, length, refl, sym, subst, arith, Contains}
use Rattle.wb_lemmas.proofs.Elements.{all_contained}
use Rattle.wb_lemmas.proofs.Members.{contains_first, contains_later, append_contains_left, append_contains_right}
use Rattle.wb_operations.specs.Operations.{Operations}
use Rattle.wb_syntax_resolved.specs.declared.attribution.AttributionParts.{AttributionParts}
use Rattle.wb_values.specs.Tree.{Tree, Value}
use Rattle.wb_eval_theory.proofs.AnswerLemmas.{one_node, one_answer}
use Rattle.wb_eval_theory.proofs.CountLemmas.{no_more}
use Rattle.std.specs.Prelude.{◌↔◌}
use Rattle.wb_eval_theory.proofs.FiniteLemmas.{answers_exist}
use Rattle.wb_eval_theory.specs.Evaluable.{IsEvaluable, IsAsked}
use Rattle.wb_eval_theory.specs.Answers.{IsNodeAt, HasAnswer, by_walk, Ends, at_done, at_value, at_fault}
use Rattle.wb_eval_theory.specs.Instances.{Instance, root, synthesized_at, home}
use Rattle.wb_eval_theory.specs.Laws.{HasSomeAnswer, IsEnough}
use Rattle.wb_eval_theory.specs.Needed.{Comes, here, after, ReadsNext, IsNeeded, itself, next, NeedsMoreThan}
use Rattle.wb_eval_theory.specs.Walks.{Outcome, value, fault, Walk, done, read, walk_of}

module _ (a : AttributionParts) (operations : Operations) (top : Tree) where
  abbrev Answers : Instance → Outcome → Type 0
  Answers i o = HasAnswer a operations top i o

  abbrev ComesTo : Walk → Walk → Type 0
  ComesTo w v = Comes a operations top w v

  abbrev Needing : Instance → Instance → Type 0
  Needing i r = IsNeeded a operations top i r

  abbrev Reading : Instance → Instance → Type 0
  Reading i r = ReadsNext a operations top i r

  -- what is needed is the instance itself, or is needed for one that it reads
  first_read : {i x : Instance} → Needing i x → (i ≡ x) ⊎ ((r : Instance) × Reading i r × Needing r x)
  first_read itself = inl refl
  first_read {i} {x} (next {i = j} n reads) = by_case (first_read n) where
    by_case : ((i ≡ j) ⊎ ((r : Instance) × Reading i r × Needing r j)) → (i ≡ x) ⊎ ((r : Instance) × Reading i r × Needing r x)
    by_case (inl e) = inr (x, subst (λ (z : Instance). Reading z x) (sym e) reads, itself)
    by_case (inr z) = inr (z.0, z.1, next z.2 reads)

  -- the list has all that is needed for the instance, and each has an answer
  record IsAll (i : Instance) (all : List Instance) : Type 0 where
    covers : (x : Instance) → Needing i x → Contains all x × HasSomeAnswer a operations top x

  -- the list has all that is needed for what the walk reads
  record IsAllOf (w : Walk) (all : List Instance) : Type 0 where
    covers : (r : Instance) (rest : Value → Walk) → ComesTo w (read r rest) → (x : Instance) → Needing r x
        → Contains all x × HasSomeAnswer a operations top x

  done_ends : {o : Outcome} → IsAllOf (done o) []
  done_ends {o} = record { covers = λ r rest c x n. absurd (no_read c) } where
    no_read : {r : Instance} {rest : Value → Walk} → ComesTo (done o) (read r rest) → ⊥
    no_read c = elim c [ ]

  value_ends : {r : Instance} {on : Value → Walk} {v : Value} (below rest : List Instance) → Answers r (value v) → IsAll r below
      → IsAllOf (on v) rest → IsAllOf (read r on) (below ++ rest)
  value_ends {r} {on} {v} below rest is first later = record { covers = λ s k c x n. covered s k c x n } where
    covered : (s : Instance) (k : Value → Walk) → ComesTo (read r on) (read s k) → (x : Instance) → Needing s x
        → Contains (below ++ rest) x × HasSomeAnswer a operations top x
    covered s k here x n = let h = first.covers x n in (append_contains_left below rest x h.0, h.1)
    covered s k (after {v = u} z c) x n =
        let e = one_answer a operations top z is in
        let same : u ≡ v = cc e in
        let h = later.covers s k (subst (λ (y : Value). ComesTo (on y) (read s k)) same c) x n in
        (append_contains_right below rest x h.0, h.1)

  fault_ends : {r : Instance} {on : Value → Walk} {operation code : ℕ} (below : List Instance) → Answers r (fault operation code)
      → IsAll r below → IsAllOf (read r on) below
  fault_ends {r} {on} below is first = record { covers = λ s k c x n. covered s k c x n } where
    covered : (s : Instance) (k : Value → Walk) → ComesTo (read r on) (read s k) → (x : Instance) → Needing s x
        → Contains below x × HasSomeAnswer a operations top x
    covered s k here x n = first.covers x n
    covered s k (after z c) x n = let e = one_answer a operations top z is in absurd (cc e)

  node_all : {i : Instance} {t : Tree} {o : Outcome} (all : List Instance) → IsNodeAt a operations top (home i) t → Answers i o
      → IsAllOf (walk_of operations a i t) all → IsAll i (i ∷ all)
  node_all {i} {t} {o} all there is w = record { covers = λ x n. covered x (first_read n) } where
    covered : (x : Instance) → (i ≡ x) ⊎ ((r : Instance) × Reading i r × Needing r x) → Contains (i ∷ all) x × HasSomeAnswer a operations top x
    covered x (inl e) = subst (λ (z : Instance). Contains (i ∷ all) z × HasSomeAnswer a operations top z) e (contains_first i all, (o, is))
    covered x (inr z) =
        let reads = z.1 in
        let same : reads.at ≡ t = one_node a operations top reads.is_node there in
        let c = subst (λ (u : Tree). ComesTo (walk_of operations a i u) (read z.0 reads.rest)) same reads.comes in
        let h = w.covers z.0 reads.rest c x z.2 in
        (contains_later i x all h.0, h.1)

  mutual
    answer_all : {i : Instance} {o : Outcome} → Answers i o → (all : List Instance) × IsAll i all
    answer_all {i} (by_walk there ends) =
        let (all, w) = ends_all ends in (i ∷ all, node_all all there (by_walk there ends) w)

    ends_all : {w : Walk} {o : Outcome} → Ends a operations top w o → (all : List Instance) × IsAllOf w all
    ends_all at_done = ([], done_ends)
    ends_all (at_value is ends) =
        let (below, first) = answer_all is in
        let (rest, later) = ends_all ends in (below ++ rest, value_ends below rest is first later)
    ends_all (at_fault is) = let (below, first) = answer_all is in (below, fault_ends below is first)

  pub needed_answers : (i r : Instance) → HasSomeAnswer a operations top i → Needing i r → HasSomeAnswer a operations top r
  needed_answers i r (o, is) n = ((answer_all is).1.covers r n).1

  pub some_enough : (i : Instance) → HasSomeAnswer a operations top i → IsEnough a operations top i
  some_enough i (o, is) = (length all, λ m. exceeded m) where
    all : List Instance
    all = (answer_all is).0

    covers : IsAll i all
    covers = (answer_all is).1

    exceeded : NeedsMoreThan a operations top i (length all) → ⊥
    exceeded m =
        let h = no_more m.members all m.different (λ x has. (covers.covers x (all_contained (Needing i) m.members x m.needed has)).0) in
        omega (arith, h, m.count)

  pub more_enough : (i : Instance) (n m : ℕ) → n ≤ m → ¬ NeedsMoreThan a operations top i n → ¬ NeedsMoreThan a operations top i m
  more_enough i n m le enough more = enough (record {
    members = more.members;
    count = let c = more.count in omega (arith, c, le);
    different = more.different;
    needed = more.needed;
  })

  -- by each number more are needed, or there is an answer
  pub either : (attribute n : ℕ) → IsEvaluable a operations → IsAsked a top attribute
      → ¬ ¬ (NeedsMoreThan a operations top (synthesized_at root attribute) n ⊎ HasSomeAnswer a operations top (synthesized_at root attribute))
  either attribute n evaluable asked out =
      out (inr (answers_exist a operations top attribute n evaluable asked (λ more. out (inl more))))

  pub exact : (attribute : ℕ) → IsEvaluable a operations → IsAsked a top attribute
      → HasSomeAnswer a operations top (synthesized_at root attribute) ↔ IsEnough a operations top (synthesized_at root attribute)
  exact attribute evaluable asked = (
    some_enough (synthesized_at root attribute),
    λ (n, enough). answers_exist a operations top attribute n evaluable asked enough,
  )
