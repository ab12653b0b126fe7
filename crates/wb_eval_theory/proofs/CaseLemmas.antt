-- What an instance answers and reads, case by case.
use Rattle.std.proofs.Common.{◌≡◌, ◌∙◌, ◌⊎◌, ◌↔◌, inl, inr, ℕ, Option, Some, None, refl, sym, subst, ap}
use Rattle.wb_flow_theory.specs.Vertices.{Made, local, forward, Step, child, made, top_synthesized, inherited, tree_of}
use Rattle.wb_operations.specs.Operations.{Operations}
use Rattle.wb_syntax_resolved.specs.declared.attribution.AttributionParts.{AttributionParts}
use Rattle.wb_syntax_resolved.specs.Expression.{Expression}
use Rattle.wb_values.specs.Tree.{Tree, Value, plain, tree, children_of, value_at}
use Rattle.wb_eval_theory.proofs.AnswerLemmas.{one_node, one_answer}
use Rattle.wb_eval_theory.proofs.OutcomeLemmas.{EndsAt, ComesAt, Is, read_ends, done_ends, missing_ends, read_comes, done_comes}
use Rattle.wb_eval_theory.proofs.OutcomeLemmas.{outcome_ends, ends_outcome, reads_come, come_reads}
use Rattle.wb_eval_theory.specs.Answers.{IsNodeAt, at_root, at_child, at_made, by_walk, at_done, at_value, at_fault}
use Rattle.wb_eval_theory.specs.Cases.{ReadsTree, IsByExpression, ReadsByExpression, IsByEquation, IsByForward, IsAfterTree, IsInherited}
use Rattle.wb_eval_theory.specs.Cases.{IsTree, AreUndefined, HasCases}
use Rattle.wb_eval_theory.specs.Instances.{Path, root, down, Instance, synthesized_at, inherited_at, tree_at, home}
use Rattle.wb_eval_theory.specs.Needed.{here, after, ReadsNext}
use Rattle.wb_eval_theory.specs.Outcomes.{HasOutcome, Reads}
use Rattle.wb_eval_theory.specs.Walks.{Outcome, value, fault, Walk, read, missing, with_tree, walk_expression, finish, walk_top}
use Rattle.wb_eval_theory.specs.Walks.{walk_below, walk_made, tree_rule, walk_synthesized, walk_of}

module _ (a : AttributionParts) (operations : Operations) (top : Tree) where
  abbrev Node : Path → Tree → Type 0
  Node = IsNodeAt a operations top

  abbrev Reading : Instance → Instance → Type 0
  Reading = ReadsNext a operations top

  abbrev IsCome : Walk → Instance → Type 0
  IsCome w r = (rest : Value → Walk) × ComesAt a operations top w (read r rest)

  -- the tree whose local or forward has an answer
  node_of : {q : Path} {m : Made} {o : Outcome} → Is a operations top (tree_at q m) o → (t : Tree) × Node q t
  node_of (by_walk {t = t} n d) = (t, n)

  -- an answer is the end of the walk, with the tree at the home
  at_home : (i : Instance) (t : Tree) (o : Outcome) → Node (home i) t
      → Is a operations top i o ↔ EndsAt a operations top (walk_of operations a i t) o
  at_home i t o there = (ends, λ d. by_walk there d) where
    ends : Is a operations top i o → EndsAt a operations top (walk_of operations a i t) o
    ends (by_walk n d) = subst (λ (u : Tree). EndsAt a operations top (walk_of operations a i u) o) (one_node a operations top n there) d

  reads_home : (i r : Instance) (t : Tree) → Node (home i) t → Reading i r ↔ IsCome (walk_of operations a i t) r
  reads_home i r t there = (
    λ n. (n.rest, subst (λ (u : Tree). ComesAt a operations top (walk_of operations a i u) (read r n.rest)) (one_node a operations top n.is_node there) n.comes),
    λ c. record { at = t; is_node = there; rest = c.0; comes = c.1 },
  )

  abbrev Synthesized : Path → ℕ → Tree → Walk
  Synthesized q y t = walk_synthesized operations a q y t

  -- a synthesized attribute is found at its node
  from_node : (q : Path) (y : ℕ) (t : Tree) (o : Outcome) → Node q t → Is a operations top (synthesized_at q y) o
      → EndsAt a operations top (Synthesized q y t) o
  unfolding walk_of
  from_node root y t o at_root has = (at_home (synthesized_at root y) t o at_root).0 has
  from_node (down q (child k)) y t o (at_child {t = u} n e) has =
      let d = (at_home (synthesized_at (down q (child k)) y) u o n).0 has in
      subst (λ (v : Option Value). EndsAt a operations top (with_tree v (Synthesized (down q (child k)) y)) o) e d
  from_node (down q (made m)) y t o (at_made made_one) has =
      let (u, n) = node_of made_one in
      elim (read_ends a operations top ((at_home (synthesized_at (down q (made m)) y) u o n).0 has)) [
        | inl z ↦
            let h = one_answer a operations top z.1 made_one in
            let same : z.0 ≡ tree t = cc h in
            subst (λ (v : Value). EndsAt a operations top (with_tree (Some v) (Synthesized (down q (made m)) y)) o) same z.2
        | inr z ↦ let h = one_answer a operations top z.2 made_one in absurd (cc h)
      ]

  to_node : (q : Path) (y : ℕ) (t : Tree) (o : Outcome) → Node q t → EndsAt a operations top (Synthesized q y t) o
      → Is a operations top (synthesized_at q y) o
  unfolding walk_of
  to_node root y t o at_root d = by_walk at_root d
  to_node (down q (child k)) y t o (at_child {t = u} n e) d =
      by_walk n (subst (λ (v : Option Value). EndsAt a operations top (with_tree v (Synthesized (down q (child k)) y)) o) (sym e) d)
  to_node (down q (made m)) y t o (at_made made_one) d = by_walk (node_of made_one).1 (at_value made_one d)

  from_reads : (q : Path) (y : ℕ) (t : Tree) (r : Instance) → Node q t → Reading (synthesized_at q y) r
      → ReadsTree a operations top q r ⊎ IsCome (Synthesized q y t) r
  unfolding walk_of
  from_reads root y t r at_root reads = inr ((reads_home (synthesized_at root y) r t at_root).0 reads)
  from_reads (down q (child k)) y t r (at_child {t = u} n e) reads =
      let c = (reads_home (synthesized_at (down q (child k)) y) r u n).0 reads in
      inr (subst (λ (v : Option Value). IsCome (with_tree v (Synthesized (down q (child k)) y)) r) e c)
  from_reads (down q (made m)) y t r (at_made made_one) reads =
      let (u, n) = node_of made_one in
      let c = (reads_home (synthesized_at (down q (made m)) y) r u n).0 reads in
      elim (read_comes a operations top c.1) [
        | inl same ↦ inl same
        | inr z ↦
            let h = one_answer a operations top z.1 made_one in
            let same : z.0 ≡ tree t = cc h in
            inr (c.0, subst (λ (v : Value). ComesAt a operations top (with_tree (Some v) (Synthesized (down q (made m)) y)) (read r c.0)) same z.2)
      ]

  tree_first : (q : Path) (m : Made) (y : ℕ) (t : Tree) → Node q t → Reading (synthesized_at (down q (made m)) y) (tree_at q m)
  unfolding walk_of
  tree_first q m y t there = record { at = t; is_node = there; rest = _; comes = here }

  to_reads : (q : Path) (y : ℕ) (t : Tree) (r : Instance) → Node q t → ReadsTree a operations top q r ⊎ IsCome (Synthesized q y t) r
      → Reading (synthesized_at q y) r
  unfolding walk_of
  to_reads root y t r at_root (inl none) = absurd none
  to_reads root y t r at_root (inr c) = (reads_home (synthesized_at root y) r t at_root).1 c
  to_reads (down q (child k)) y t r (at_child {t = u} n e) (inl none) = absurd none
  to_reads (down q (child k)) y t r (at_child {t = u} n e) (inr c) =
      (reads_home (synthesized_at (down q (child k)) y) r u n).1
      (subst (λ (v : Option Value). IsCome (with_tree v (Synthesized (down q (child k)) y)) r) (sym e) c)
  to_reads (down q (made m)) y t r (at_made made_one) (inl same) =
      let (u, n) = node_of made_one in
      subst (Reading (synthesized_at (down q (made m)) y)) (sym same) (tree_first q m y u n)
  to_reads (down q (made m)) y t r (at_made made_one) (inr c) =
      let (u, n) = node_of made_one in
      (reads_home (synthesized_at (down q (made m)) y) r u n).1 (c.0, after made_one c.1)

  -- a walk that reads one instance alone
  only_ends : (i : Instance) (o : Outcome) → EndsAt a operations top (read i (finish operations)) o ↔ Is a operations top i o
  only_ends i o = (
    λ d. elim (read_ends a operations top d) [
      | inl z ↦ subst (Is a operations top i) (done_ends a operations top z.2) z.1
      | inr z ↦ subst (Is a operations top i) (sym z.3) z.2
    ],
    by_outcome o,
  ) where
    by_outcome : (o : Outcome) → Is a operations top i o → EndsAt a operations top (read i (finish operations)) o
    by_outcome (value v) has = at_value has at_done
    by_outcome (fault operation code) has = at_fault has

  only_reads : (i r : Instance) → IsCome (read i (finish operations)) r ↔ (r ≡ i)
  only_reads i r = (
    λ c. elim (read_comes a operations top c.1) [ inl same ↦ same | inr z ↦ absurd (done_comes a operations top z.2) ],
    λ same. subst (λ (z : Instance). IsCome (read i (finish operations)) z) (sym same) (finish operations, here),
  )

  abbrev Ways : Walk → Path → Tree → Expression → Type 0
  Ways w q t e = ((o : Outcome) → EndsAt a operations top w o ↔ HasOutcome a operations top q (children_of t) e o)
      × ((r : Instance) → IsCome w r ↔ Reads a operations top q (children_of t) e r)

  ways : (q : Path) (t : Tree) (e : Expression) → Ways (walk_expression operations q (children_of t) e (finish operations)) q t e
  ways q t e = (
    λ o. (ends_outcome a operations top q (children_of t) e o, outcome_ends a operations top q (children_of t) e o),
    λ r. (come_reads a operations top q (children_of t) e r, reads_come a operations top q (children_of t) e r),
  )

  -- by an equation
  equation_ways : (q : Path) (y : ℕ) (t : Tree) (e : Expression) → tree_rule operations a t (top_synthesized y) ≡ Some e
      → Ways (Synthesized q y t) q t e
  equation_ways q y t e rule =
      subst (λ (z : Option Expression). Ways (walk_top operations q (children_of t) y z (tree_rule operations a t (tree_of forward))) q t e)
      (sym rule) (ways q t e)

  pub by_equation : (q : Path) (y : ℕ) → IsByEquation a operations top q y
  by_equation q y = record {
    answer = λ t e there rule o.
        let w = equation_ways q y t e rule in
        (λ has. (w.0 o).0 (from_node q y t o there has), λ has. to_node q y t o there ((w.0 o).1 has));
    reads = λ t e r there rule.
        let w = equation_ways q y t e rule in (
          λ reads. elim (from_reads q y t r there reads) [ inl z ↦ inl z | inr z ↦ inr ((w.1 r).0 z) ],
          λ reads. to_reads q y t r there (elim reads [ inl z ↦ inl z | inr z ↦ inr ((w.1 r).1 z) ]),
        );
  }

  -- through the forward
  abbrev Forwarded : Path → ℕ → Walk
  Forwarded q y = read (tree_at q forward) (λ t. read (synthesized_at (down q (made forward)) y) (finish operations))

  forwarded : (q : Path) (y : ℕ) (t : Tree) (f : Expression) → tree_rule operations a t (top_synthesized y) ≡ None
      → tree_rule operations a t (tree_of forward) ≡ Some f → Synthesized q y t ≡ Forwarded q y
  forwarded q y t f none some =
      ap (λ (z : Option Expression). walk_top operations q (children_of t) y z (tree_rule operations a t (tree_of forward))) none
      ∙ ap (walk_top operations q (children_of t) y None) some

  module _ (q : Path) (y : ℕ) (t : Tree) (there : Node q t) where
    -- the attribute of the forwarded tree, of which that tree is the first read
    forward_ends : (o : Outcome) → EndsAt a operations top (Forwarded q y) o → Is a operations top (synthesized_at (down q (made forward)) y) o
    unfolding walk_of
    forward_ends o d = elim (read_ends a operations top d) [
      | inl z ↦ (only_ends (synthesized_at (down q (made forward)) y) o).0 z.2
      | inr z ↦ subst (Is a operations top (synthesized_at (down q (made forward)) y)) (sym z.3) (by_walk there (at_fault z.2))
    ]

    ends_forward : (o : Outcome) → Is a operations top (synthesized_at (down q (made forward)) y) o → EndsAt a operations top (Forwarded q y) o
    unfolding walk_of
    ends_forward o has =
        elim (read_ends a operations top ((at_home (synthesized_at (down q (made forward)) y) t o there).0 has)) [
          | inl z ↦ at_value z.1 ((only_ends (synthesized_at (down q (made forward)) y) o).1 has)
          | inr z ↦ subst (λ (p : Outcome). EndsAt a operations top (Forwarded q y) p) (sym z.3) (at_fault z.2)
        ]

    abbrev ForwardReads : Instance → Type 0
    ForwardReads r = (r ≡ tree_at q forward)
        ⊎ ((v : Value) × Is a operations top (tree_at q forward) (value v) × (r ≡ synthesized_at (down q (made forward)) y))

    forward_comes : (r : Instance) → IsCome (Forwarded q y) r → ForwardReads r
    forward_comes r c = elim (read_comes a operations top c.1) [
      | inl same ↦ inl same
      | inr z ↦ inr (z.0, z.1, (only_reads (synthesized_at (down q (made forward)) y) r).0 (c.0, z.2))
    ]

    comes_forward : (r : Instance) → ForwardReads r → IsCome (Forwarded q y) r
    comes_forward r (inl same) = subst (IsCome (Forwarded q y)) (sym same) (_, here)
    comes_forward r (inr z) =
        let c = (only_reads (synthesized_at (down q (made forward)) y) r).1 z.2 in (c.0, after z.1 c.1)

  pub by_forward : (q : Path) (y : ℕ) → IsByForward a operations top q y
  by_forward q y = record {
    answer = λ t f o there none some.
        let w = forwarded q y t f none some in (
          λ has. forward_ends q y t there o (subst (λ (z : Walk). EndsAt a operations top z o) w (from_node q y t o there has)),
          λ has. to_node q y t o there (subst (λ (z : Walk). EndsAt a operations top z o) (sym w) (ends_forward q y t there o has)),
        );
    reads = λ t f r there none some.
        let w = forwarded q y t f none some in (
          λ reads. elim (from_reads q y t r there reads) [
            | inl z ↦ inl z
            | inr z ↦ inr (forward_comes q y t there r (subst (λ (u : Walk). IsCome u r) w z))
          ],
          λ reads. to_reads q y t r there (elim reads [
            | inl z ↦ inl z
            | inr z ↦ inr (subst (λ (u : Walk). IsCome u r) (sym w) (comes_forward q y t there r z))
          ]),
        );
  }

  -- after the tree
  tree_answer : (q : Path) (m : Made) (y : ℕ) (operation code : ℕ) → Is a operations top (tree_at q m) (fault operation code)
      → Is a operations top (synthesized_at (down q (made m)) y) (fault operation code)
  unfolding walk_of
  tree_answer q m y operation code has = by_walk (node_of has).1 (at_fault has)

  tree_node : (q : Path) (m : Made) (y : ℕ) (o : Outcome) → Is a operations top (synthesized_at (down q (made m)) y) o
      → Is a operations top (tree_at q m) o ⊎ ((u : Tree) × Node (down q (made m)) u)
  unfolding walk_of
  tree_node q m y o (by_walk n d) = elim (read_ends a operations top d) [
    | inl z ↦ by_value z.0 z.1 z.2
    | inr z ↦ inl (subst (Is a operations top (tree_at q m)) (sym z.3) z.2)
  ] where
    by_value : (v : Value) → Is a operations top (tree_at q m) (value v)
        → EndsAt a operations top (with_tree (Some v) (Synthesized (down q (made m)) y)) o
        → Is a operations top (tree_at q m) o ⊎ ((u : Tree) × Node (down q (made m)) u)
    by_value (tree u) has d = inr (u, at_made has)
    by_value (plain c) has d = absurd (missing_ends a operations top d)

  pub after_tree : (q : Path) (m : Made) (y : ℕ) → IsAfterTree a operations top q m y
  after_tree q m y = record {
    reads = λ t there. tree_first q m y t there;
    answer = λ operation code has. tree_answer q m y operation code has;
    node = λ o has. tree_node q m y o has;
  }

  -- inherited attributes
  below_walk : (q : Path) (b : Step) (y : ℕ) (t : Tree) (e : Option Expression) → tree_rule operations a t (inherited b y) ≡ e
      → walk_of operations a (inherited_at (down q b) y) t ≡ walk_below operations q (children_of t) b y e
  unfolding walk_of
  below_walk q b y t e rule = ap (walk_below operations q (children_of t) b y) rule

  made_walk : (q : Path) (m : Made) (t : Tree) (e : Option Expression) → tree_rule operations a t (tree_of m) ≡ e
      → walk_of operations a (tree_at q m) t ≡ walk_made operations q (children_of t) e
  unfolding walk_of
  made_walk q m t e rule = ap (walk_made operations q (children_of t)) rule

  expression_answer : (i : Instance) (q : Path) (t : Tree) (e : Expression) → Node (home i) t
      → walk_of operations a i t ≡ walk_expression operations q (children_of t) e (finish operations) → IsByExpression a operations top i q t e
  expression_answer i q t e there w o =
      let d = at_home i t o there in (
        λ has. ((ways q t e).0 o).0 (subst (λ (z : Walk). EndsAt a operations top z o) w (d.0 has)),
        λ has. d.1 (subst (λ (z : Walk). EndsAt a operations top z o) (sym w) (((ways q t e).0 o).1 has)),
      )

  expression_reads : (i : Instance) (q : Path) (t : Tree) (e : Expression) → Node (home i) t
      → walk_of operations a i t ≡ walk_expression operations q (children_of t) e (finish operations) → ReadsByExpression a operations top i q t e
  expression_reads i q t e there w r =
      let d = reads_home i r t there in (
        λ reads. ((ways q t e).1 r).0 (subst (λ (z : Walk). IsCome z r) w (d.0 reads)),
        λ reads. d.1 (subst (λ (z : Walk). IsCome z r) (sym w) (((ways q t e).1 r).1 reads)),
      )

  copy_walk : (q : Path) (b : Step) (y : ℕ) (t : Tree) → tree_rule operations a t (inherited b y) ≡ None → b ≡ made forward
      → walk_of operations a (inherited_at (down q b) y) t ≡ read (inherited_at q y) (finish operations)
  copy_walk q b y t none is =
      below_walk q b y t None none ∙ ap (λ (z : Step). walk_below operations q (children_of t) z y None) is

  pub inherits : (q : Path) (b : Step) (y : ℕ) → IsInherited a operations top q b y
  inherits q b y = record {
    answer = λ t e there rule. expression_answer (inherited_at (down q b) y) q t e there (below_walk q b y t (Some e) rule);
    reads = λ t e there rule. expression_reads (inherited_at (down q b) y) q t e there (below_walk q b y t (Some e) rule);
    copied = λ t o there none is.
        let d = at_home (inherited_at (down q b) y) t o there in
        let w = copy_walk q b y t none is in (
          λ has. (only_ends (inherited_at q y) o).0 (subst (λ (z : Walk). EndsAt a operations top z o) w (d.0 has)),
          λ has. d.1 (subst (λ (z : Walk). EndsAt a operations top z o) (sym w) ((only_ends (inherited_at q y) o).1 has)),
        );
    copy_reads = λ t r there none is.
        let d = reads_home (inherited_at (down q b) y) r t there in
        let w = copy_walk q b y t none is in (
          λ reads. (only_reads (inherited_at q y) r).0 (subst (λ (z : Walk). IsCome z r) w (d.0 reads)),
          λ same. d.1 (subst (λ (z : Walk). IsCome z r) (sym w) ((only_reads (inherited_at q y) r).1 same)),
        );
  }

  pub tree_case : (q : Path) (m : Made) → IsTree a operations top q m
  tree_case q m = record {
    answer = λ t e there rule. expression_answer (tree_at q m) q t e there (made_walk q m t (Some e) rule);
    reads = λ t e there rule. expression_reads (tree_at q m) q t e there (made_walk q m t (Some e) rule);
  }

  -- what nothing defines
  no_end : {w : Walk} {o : Outcome} → w ≡ missing → EndsAt a operations top w o → ⊥
  no_end {w} {o} is d = missing_ends a operations top (subst (λ (z : Walk). EndsAt a operations top z o) is d)

  no_synthesized : (q : Path) (y : ℕ) (t : Tree) (o : Outcome) → Node q t → tree_rule operations a t (top_synthesized y) ≡ None
      → tree_rule operations a t (tree_of forward) ≡ None → ¬ Is a operations top (synthesized_at q y) o
  no_synthesized q y t o there none nothing has =
      no_end (ap (λ (z : Option Expression). walk_top operations q (children_of t) y z (tree_rule operations a t (tree_of forward))) none
      ∙ ap (walk_top operations q (children_of t) y None) nothing) (from_node q y t o there has)

  no_child : (q : Path) (k y : ℕ) (t : Tree) (o : Outcome) → Node q t → ((u : Tree) → value_at (children_of t) k ≡ Some (tree u) → ⊥)
      → ¬ Is a operations top (synthesized_at (down q (child k)) y) o
  unfolding walk_of
  no_child q k y t o there none has =
      by_value (value_at (children_of t) k) refl ((at_home (synthesized_at (down q (child k)) y) t o there).0 has) where
        by_value : (v : Option Value) → value_at (children_of t) k ≡ v
            → EndsAt a operations top (with_tree v (Synthesized (down q (child k)) y)) o → ⊥
        by_value None is d = missing_ends a operations top d
        by_value (Some (plain c)) is d = missing_ends a operations top d
        by_value (Some (tree u)) is d = none u is

  no_top : (y : ℕ) (o : Outcome) → ¬ Is a operations top (inherited_at root y) o
  unfolding walk_of
  no_top y o (by_walk n d) = missing_ends a operations top d

  no_inherited : (q : Path) (b : Step) (y : ℕ) (t : Tree) (o : Outcome) → Node q t → tree_rule operations a t (inherited b y) ≡ None
      → (b ≡ made forward → ⊥) → ¬ Is a operations top (inherited_at (down q b) y) o
  no_inherited q b y t o there none other has =
      no_end (below_walk q b y t None none ∙ by_step b other) ((at_home (inherited_at (down q b) y) t o there).0 has) where
        by_step : (b : Step) → (b ≡ made forward → ⊥) → walk_below operations q (children_of t) b y None ≡ missing
        by_step (child k) other = refl
        by_step (made (local x)) other = refl
        by_step (made forward) other = absurd (other refl)

  no_made : (q : Path) (m : Made) (t : Tree) (o : Outcome) → Node q t → tree_rule operations a t (tree_of m) ≡ None
      → ¬ Is a operations top (tree_at q m) o
  no_made q m t o there none has = no_end (made_walk q m t None none) ((at_home (tree_at q m) t o there).0 has)

  no_home : (i : Instance) (o : Outcome) → ((t : Tree) → ¬ Node (home i) t) → ¬ Is a operations top i o
  no_home i o nowhere (by_walk {t = t} n d) = nowhere t n

  pub undefined_ones : AreUndefined a operations top
  undefined_ones = record {
    synthesized = no_synthesized;
    of_plain_child = no_child;
    of_root = no_top;
    inherited_one = λ q b y t o there none other. no_inherited q b y t o there none other;
    made_tree = no_made;
    nowhere = no_home;
  }

  pub has_cases : HasCases a operations top
  has_cases = record {
    by_equation = by_equation;
    by_forward = by_forward;
    after_tree = after_tree;
    inherits = inherits;
    tree = tree_case;
    undefined_ones = undefined_ones;
  }
