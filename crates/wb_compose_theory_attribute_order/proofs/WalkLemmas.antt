-- What an instance does next is the same in other numbers: it reads the same, in new numbers, and goes on alike with its value.
use Rattle.std.proofs.Common.{◌≡◌, ◌∙◌, ℕ, true, false, Option, Some, None, option_map, refl, sym, ap, subst}
use Rattle.std.proofs.lemmas.Option.{same_Some}
use Rattle.wb_flow_theory.specs.Vertices.{Made, forward, local, Step, child, made, inherited, step_to, top_synthesized, tree_of}
use Rattle.wb_eval_theory.proofs.AnswerLemmas.{one_node}
use Rattle.wb_eval_theory.specs.Answers.{IsNodeAt, HasAnswer, at_child, at_made}
use Rattle.wb_eval_theory.specs.Instances.{Path, root, down, Instance, synthesized_at, inherited_at, tree_at, home}
use Rattle.wb_eval_theory.specs.Walks.{Outcome, Walk, done, read, missing, branch, finish, number_of, plains, tree_rule, walk_below}
use Rattle.wb_eval_theory.specs.Walks.{walk_expression, walk_expressions, walk_made, walk_of, walk_synthesized, walk_top, with_call}
use Rattle.wb_eval_theory.specs.Walks.{with_given}
use Rattle.wb_eval_theory.specs.Walks.{with_label, with_lexeme, with_tree, with_value}
use Rattle.wb_syntax_expressions.specs.Expression as x
use Rattle.wb_operations.specs.Given.{Given}
use Rattle.wb_operations.specs.Given as given
use Rattle.wb_operations.specs.Operations.{Operations}
use Rattle.wb_syntax_resolved.specs.declared.attribution.AttributionParts.{AttributionParts}
use Rattle.wb_syntax_resolved.specs.declared.equation.Place.{Place}
use Rattle.wb_syntax_resolved.specs.declared.equation.Place.TheVariants as place
use Rattle.wb_syntax_resolved.specs.Expression.{Expression, Expressions}
use Rattle.wb_compose_theory_attributes.proofs.ExpressionLemmas.{new_expression, new_expressions}
use Rattle.wb_compose_theory_attributes.specs.Numbers.{NumberMap, new_made, new_step}
use Rattle.wb_compose_theory_attributes.specs.Rows.{new_place}
use Rattle.wb_values.specs.Tree.{Tree, node, Value, int, bool, text, plain, tree, Values, empty, more, children_of, production_of, value_at}
use Rattle.wb_compose_theory_attribute_order.specs.Values.{renamed_outcome, renamed_tree, renamed_value, renamed_values}
use Rattle.wb_compose_theory_attribute_order.proofs.PathLemmas.{Becomes, Leads, inherited_too, synthesized_too, to_child, to_made, to_root}
use Rattle.wb_compose_theory_attribute_order.proofs.PathLemmas.{tree_too}
use Rattle.wb_compose_theory_attribute_order.proofs.RuleLemmas.{HasSameRules, tree_rules}
use Rattle.wb_compose_theory_attribute_order.proofs.ValueLemmas.{children_renamed, plains_renamed, value_at_renamed}

module _ (t : NumberMap) (a : AttributionParts) (operations : Operations) (top : Tree) where
  abbrev Into : Instance → Instance → Type 0
  Into = Becomes t a operations top

  -- the second does what the first does, in new numbers
  pub data Alike : Walk → Walk → Type 0 where
    both_done : {o l : Outcome} → l ≡ renamed_outcome t o → Alike (done o) (done l)
    both_read : {i j : Instance} {next other : Value → Walk} → Becomes t a operations top i j
        → ((v : Value) → HasAnswer a operations top i (Outcome.value v) → Alike (next v) (other (renamed_value t v)))
        → Alike (read i next) (read j other)
    both_missing : Alike missing missing

  -- they go on alike with each value
  abbrev GoOn : (Value → Walk) → (Value → Walk) → Type 0
  GoOn next other = (v : Value) → Alike (next v) (other (renamed_value t v))

  finished : GoOn (finish operations) (finish operations)
  finished v = both_done refl

  value_alike : (o : Option Value) (next other : Value → Walk) → GoOn next other
      → Alike (with_value o next) (with_value (option_map (renamed_value t) o) other)
  value_alike None next other on = both_missing
  value_alike (Some v) next other on = on v

  pub tree_alike : (o : Option Value) (next other : Tree → Walk)
      → ((u : Tree) → o ≡ Some (tree u) → Alike (next u) (other (renamed_tree t u)))
      → Alike (with_tree o next) (with_tree (option_map (renamed_value t) o) other)
  tree_alike None next other on = both_missing
  tree_alike (Some (plain c)) next other on = both_missing
  tree_alike (Some (tree u)) next other on = on u refl

  branch_alike : (v : Value) (holds fails h f : Walk) → Alike holds h → Alike fails f
      → Alike (branch v holds fails) (branch (renamed_value t v) h f)
  branch_alike (plain (bool true)) holds fails h f one other = one
  branch_alike (plain (bool false)) holds fails h f one other = other
  branch_alike (plain (int z)) holds fails h f one other = both_missing
  branch_alike (plain (text s)) holds fails h f one other = both_missing
  branch_alike (tree u) holds fails h f one other = both_missing

  given_alike : (number : ℕ) (g : Given) (next other : Value → Walk) → GoOn next other
      → Alike (with_given number g next) (with_given number g other)
  given_alike number (given.gives c) next other on = on (plain c)
  given_alike number (given.fails code) next other on = both_done refl

  call_alike : (o : Option ℕ) (us : Values) (next other : Value → Walk) → GoOn next other
      → Alike (with_call operations o us next) (with_call operations o (renamed_values t us) other)
  call_alike None us next other on = both_missing
  call_alike (Some number) us next other on =
      subst (λ z. Alike (with_given number (operations.meaning number (plains us)) next) (with_given number (operations.meaning number z) other))
      (sym (plains_renamed t us)) (given_alike number (operations.meaning number (plains us)) next other on)

  -- at a node
  module _ (q r : Path) (u : Tree) (lead : Leads t a operations top q r) (at : IsNodeAt a operations top q u) where
    abbrev ne : Expression → Expression
    ne = new_expression t (production_of u)

    child_alike : (vs : Values) (k : ℕ) (next other : Value → Walk) → GoOn next other
        → Alike (with_value (value_at vs k) next) (with_value (value_at (renamed_values t vs) k) other)
    child_alike vs k next other on =
        subst (λ z. Alike (with_value (value_at vs k) next) (with_value z other)) (sym (value_at_renamed t vs k))
        (value_alike (value_at vs k) next other on)

    label_alike : (vs : Values) (l : Place) (next other : Value → Walk) → GoOn next other
        → Alike (with_label operations q vs l next) (with_label operations r (renamed_values t vs) (new_place t (production_of u) l) other)
    label_alike vs (place.Child k) next other on = child_alike vs k next other on
    label_alike vs (place.Local k) next other on = both_read (tree_too u lead at refl) (λ v has. on v)

    lexeme_alike : (vs : Values) (l : Place) (next other : Value → Walk) → GoOn next other
        → Alike (with_lexeme operations vs l next) (with_lexeme operations (renamed_values t vs) (new_place t (production_of u) l) other)
    lexeme_alike vs (place.Child k) next other on = child_alike vs k next other on
    lexeme_alike vs (place.Local k) next other on = both_missing

    place_leads : (l : Place) → Leads t a operations top (down q (step_to l)) (down r (step_to (new_place t (production_of u) l)))
    place_leads (place.Child k) = to_child lead
    place_leads (place.Local k) = to_made u lead at refl

    mutual
      unfolding walk_expression walk_expressions

      walk_alike : (vs : Values) (e : Expression) (next other : Value → Walk) → GoOn next other
          → Alike (walk_expression operations q vs e next) (walk_expression operations r (renamed_values t vs) (ne e) other)
      walk_alike vs (x.Int z) next other on = on (plain (int z))
      walk_alike vs (x.Text s) next other on = on (plain (text s))
      walk_alike vs (x.Truth b) next other on = on (plain (bool b))
      walk_alike vs (x.Label l) next other on = label_alike vs l next other on
      walk_alike vs (x.Read l y) next other on = both_read (synthesized_too (place_leads l) refl) (λ v has. on v)
      walk_alike vs (x.Lexeme l) next other on = lexeme_alike vs l next other on
      walk_alike vs (x.Top y) next other on = both_read (inherited_too lead refl) (λ v has. on v)
      walk_alike vs (x.Forward y) next other on = both_read (synthesized_too (to_made u lead at refl) refl) (λ v has. on v)
      walk_alike vs (x.Build p es) next other on =
          walks_alike vs es (λ us. next (tree (node p us))) (λ us. other (tree (node (t.production p) us))) (λ us. on (tree (node p us)))
      walk_alike vs (x.Call name es) next other on =
          walks_alike vs es (λ us. with_call operations (number_of operations.signatures name) us next)
          (λ us. with_call operations (number_of operations.signatures name) us other)
          (λ us. call_alike (number_of operations.signatures name) us next other on)
      walk_alike vs (x.If c h f) next other on =
          walk_alike vs c (λ v. branch v (walk_expression operations q vs h next) (walk_expression operations q vs f next))
          (λ v. branch v (walk_expression operations r (renamed_values t vs) (ne h) other)
          (walk_expression operations r (renamed_values t vs) (ne f) other))
          (λ v. branch_alike v (walk_expression operations q vs h next) (walk_expression operations q vs f next)
          (walk_expression operations r (renamed_values t vs) (ne h) other)
          (walk_expression operations r (renamed_values t vs) (ne f) other) (walk_alike vs h next other on) (walk_alike vs f next other on))

      walks_alike : (vs : Values) (es : Expressions) (next other : Values → Walk)
          → ((us : Values) → Alike (next us) (other (renamed_values t us)))
          → Alike (walk_expressions operations q vs es next)
          (walk_expressions operations r (renamed_values t vs) (new_expressions t (production_of u) es) other)
      walks_alike vs x.none next other on = on empty
      walks_alike vs (x.more e es) next other on =
          walk_alike vs e (λ v. walk_expressions operations q vs es (λ us. next (more v us)))
          (λ v. walk_expressions operations r (renamed_values t vs) (new_expressions t (production_of u) es) (λ us. other (more v us)))
          (λ v. walks_alike vs es (λ us. next (more v us)) (λ us. other (more (renamed_value t v) us)) (λ us. on (more v us)))

    finish_alike : (vs : Values) (e : Expression)
        → Alike (walk_expression operations q vs e (finish operations)) (walk_expression operations r (renamed_values t vs) (ne e) (finish operations))
    finish_alike vs e = walk_alike vs e (finish operations) (finish operations) finished

    top_alike : (vs : Values) (y : ℕ) (e f : Option Expression)
        → Alike (walk_top operations q vs y e f)
        (walk_top operations r (renamed_values t vs) (t.attribute y) (option_map ne e) (option_map ne f))
    top_alike vs y (Some e) f = finish_alike vs e
    top_alike vs y None (Some f) =
        both_read (tree_too u lead at refl) (λ v has. both_read (synthesized_too (to_made u lead at refl) refl) (λ w also. finished w))
    top_alike vs y None None = both_missing

    below_alike : (vs : Values) (s : Step) (y : ℕ) (e : Option Expression)
        → Alike (walk_below operations q vs s y e)
        (walk_below operations r (renamed_values t vs) (new_step t (production_of u) s) (t.attribute y) (option_map ne e))
    below_alike vs s y (Some e) = finish_alike vs e
    below_alike vs (made forward) y None = both_read (inherited_too lead refl) (λ v has. finished v)
    below_alike vs (made (local k)) y None = both_missing
    below_alike vs (child k) y None = both_missing

    made_alike : (vs : Values) (e : Option Expression)
        → Alike (walk_made operations q vs e) (walk_made operations r (renamed_values t vs) (option_map ne e))
    made_alike vs (Some e) = finish_alike vs e
    made_alike vs None = both_missing

  -- with the same rules
  module _ (b : AttributionParts) (same : HasSameRules operations t a b) where
    module _ (q r : Path) (u : Tree) (lead : Leads t a operations top q r) (at : IsNodeAt a operations top q u) where
      synthesized_alike : (y : ℕ)
          → Alike (walk_synthesized operations a q y u) (walk_synthesized operations b r (t.attribute y) (renamed_tree t u))
      synthesized_alike y =
          let below = children_renamed t u in
          let rule = tree_rules operations t a b same u (top_synthesized y) in
          let forwards = tree_rules operations t a b same u (tree_of forward) in
          subst (Alike (walk_synthesized operations a q y u)) (sym (λ i. walk_top operations r (below i) (t.attribute y) (rule i) (forwards i)))
          (top_alike q r u lead at (children_of u) y (tree_rule operations a u (top_synthesized y)) (tree_rule operations a u (tree_of forward)))

      inherited_alike : (s : Step) (y : ℕ)
          → Alike (walk_of operations a (inherited_at (down q s) y) u)
          (walk_of operations b (inherited_at (down r (new_step t (production_of u) s)) (t.attribute y)) (renamed_tree t u))
      unfolding walk_of
      inherited_alike s y =
          let below = children_renamed t u in
          let rule = tree_rules operations t a b same u (inherited s y) in
          subst (Alike (walk_of operations a (inherited_at (down q s) y) u))
          (sym (λ i. walk_below operations r (below i) (new_step t (production_of u) s) (t.attribute y) (rule i)))
          (below_alike q r u lead at (children_of u) s y (tree_rule operations a u (inherited s y)))

      made_tree_alike : (m : Made)
          → Alike (walk_of operations a (tree_at q m) u) (walk_of operations b (tree_at r (new_made t (production_of u) m)) (renamed_tree t u))
      unfolding walk_of
      made_tree_alike m =
          let below = children_renamed t u in
          let rule = tree_rules operations t a b same u (tree_of m) in
          subst (Alike (walk_of operations a (tree_at q m) u)) (sym (λ i. walk_made operations r (below i) (rule i)))
          (made_alike q r u lead at (children_of u) (tree_rule operations a u (tree_of m)))

    module _ (q r : Path) where
      child_alike_at : (u : Tree) (lead : Leads t a operations top q r) (at : IsNodeAt a operations top q u) (k y : ℕ)
          → Alike (walk_of operations a (synthesized_at (down q (child k)) y) u)
          (walk_of operations b (synthesized_at (down r (child k)) (t.attribute y)) (renamed_tree t u))
      unfolding walk_of
      child_alike_at u lead at k y =
          let below : value_at (children_of (renamed_tree t u)) k ≡ option_map (renamed_value t) (value_at (children_of u) k)
          = ap (λ z. value_at z k) (children_renamed t u) ∙ value_at_renamed t (children_of u) k in
          subst (λ z. Alike (with_tree (value_at (children_of u) k) (walk_synthesized operations a (down q (child k)) y))
          (with_tree z (walk_synthesized operations b (down r (child k)) (t.attribute y)))) (sym below)
          (tree_alike (value_at (children_of u) k) (walk_synthesized operations a (down q (child k)) y)
          (walk_synthesized operations b (down r (child k)) (t.attribute y))
          (λ w is. synthesized_alike (down q (child k)) (down r (child k)) w (to_child lead) (at_child at is) y))

      made_alike_at : (u w : Tree) (m n : Made) → Leads t a operations top (down q (made m)) (down r (made n)) → Into (tree_at q m) (tree_at r n)
          → (y : ℕ) → Alike (walk_of operations a (synthesized_at (down q (made m)) y) u)
          (walk_of operations b (synthesized_at (down r (made n)) (t.attribute y)) w)
      unfolding walk_of
      made_alike_at u w m n lead becomes y =
          both_read becomes (λ v has. tree_alike (Some v) (walk_synthesized operations a (down q (made m)) y)
          (walk_synthesized operations b (down r (made n)) (t.attribute y))
          (λ z is. synthesized_alike (down q (made m)) (down r (made n)) z lead
          (at_made (subst (λ o. HasAnswer a operations top (tree_at q m) (Outcome.value o)) (same_Some v (tree z) is) has)) y))

    -- an instance and the same in new numbers
    pub walks_on : {i j : Instance} → Becomes t a operations top i j → (u : Tree) → IsNodeAt a operations top (home i) u
        → Alike (walk_of operations a i u) (walk_of operations b j (renamed_tree t u))
    unfolding walk_of
    walks_on (synthesized_too {y = y} to_root is) u at =
        subst (λ z. Alike (walk_synthesized operations a root y u) (walk_synthesized operations b root z (renamed_tree t u))) (sym is)
        (synthesized_alike root root u to_root at y)
    walks_on (synthesized_too {y = y} (to_child {q = q} {r = r} {k = k} lead) is) u at =
        subst (λ z. Alike (walk_of operations a (synthesized_at (down q (child k)) y) u)
        (walk_of operations b (synthesized_at (down r (child k)) z) (renamed_tree t u))) (sym is) (child_alike_at q r u lead at k y)
    walks_on (synthesized_too {y = y} (to_made {q = q} {r = r} {m = m} {n = n} w lead here n_is) is) u at =
        subst (λ z. Alike (walk_of operations a (synthesized_at (down q (made m)) y) u)
        (walk_of operations b (synthesized_at (down r (made n)) z) (renamed_tree t u))) (sym is)
        (made_alike_at q r u (renamed_tree t u) m n (to_made w lead here n_is) (tree_too w lead here n_is) y)
    walks_on (inherited_too to_root is) u at = both_missing
    walks_on (inherited_too {y = y} (to_child {q = q} {r = r} {k = k} lead) is) u at =
        subst (λ z. Alike (walk_of operations a (inherited_at (down q (child k)) y) u)
        (walk_of operations b (inherited_at (down r (child k)) z) (renamed_tree t u))) (sym is) (inherited_alike q r u lead at (child k) y)
    walks_on (inherited_too {y = y} (to_made {q = q} {r = r} {m = m} {n = n} w lead here n_is) is) u at =
        subst (λ z. Alike (walk_of operations a (inherited_at (down q (made m)) y) u)
        (walk_of operations b (inherited_at (down r (made n)) z) (renamed_tree t u))) (sym is)
        (subst (λ z. Alike (walk_of operations a (inherited_at (down q (made m)) y) u)
        (walk_of operations b (inherited_at (down r (made z)) (t.attribute y)) (renamed_tree t u)))
        (ap (λ z. new_made t (production_of z) m) (one_node a operations top at here) ∙ sym n_is)
        (inherited_alike q r u lead at (made m) y))
    walks_on (tree_too {q = q} {r = r} {m = m} {n = n} w lead here n_is) u at =
        subst (λ z. Alike (walk_of operations a (tree_at q m) u) (walk_of operations b (tree_at r z) (renamed_tree t u)))
        (ap (λ z. new_made t (production_of z) m) (one_node a operations top at here) ∙ sym n_is)
        (made_tree_alike q r u lead at m)
