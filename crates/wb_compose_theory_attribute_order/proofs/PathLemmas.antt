-- Paths and instances in other numbers: each has one new one, and no two become one.
use Rattle.std.proofs.Common.{◌≡◌, ◌∙◌, ℕ, refl, sym, ap, subst}
use Rattle.wb_flow_theory.specs.Vertices.{Made, Step, child, made}
use Rattle.wb_eval_theory.proofs.AnswerLemmas.{one_node}
use Rattle.wb_eval_theory.specs.Answers.{IsNodeAt, at_root, at_child, at_made, by_walk}
use Rattle.wb_eval_theory.specs.Instances.{Path, root, down, Instance, synthesized_at, inherited_at, tree_at, home}
use Rattle.wb_operations.specs.Operations.{Operations}
use Rattle.wb_syntax_resolved.specs.declared.attribution.AttributionParts.{AttributionParts}
use Rattle.wb_compose_theory_attributes.specs.Numbers.{NumberMap, new_made, new_step}
use Rattle.wb_values.specs.Tree.{Tree, production_of}
use Rattle.wb_compose_theory_attribute_order.specs.Renumberings.{AreNumbersUndoneBy}
use Rattle.wb_compose_theory_attribute_order.proofs.RuleLemmas.{made_back}

module _ (t : NumberMap) (a : AttributionParts) (operations : Operations) (top : Tree) where
  -- the second path is the first in new numbers: a local is numbered anew on the production of its node
  pub data Leads : Path → Path → Type 0 where
    to_root : Leads root root
    to_child : {q r : Path} {k : ℕ} → Leads q r → Leads (down q (child k)) (down r (child k))
    to_made : {q r : Path} {m n : Made} (u : Tree) → Leads q r → IsNodeAt a operations top q u → n ≡ new_made t (production_of u) m
        → Leads (down q (made m)) (down r (made n))

  -- the second instance is the first in new numbers
  pub data Becomes : Instance → Instance → Type 0 where
    synthesized_too : {q r : Path} {y z : ℕ} → Leads q r → z ≡ t.attribute y → Becomes (synthesized_at q y) (synthesized_at r z)
    inherited_too : {q r : Path} {y z : ℕ} → Leads q r → z ≡ t.attribute y → Becomes (inherited_at q y) (inherited_at r z)
    tree_too : {q r : Path} {m n : Made} (u : Tree) → Leads q r → IsNodeAt a operations top q u → n ≡ new_made t (production_of u) m
        → Becomes (tree_at q m) (tree_at r n)

  -- the home becomes the home
  pub home_leads : {i j : Instance} → Becomes i j → Leads (home i) (home j)
  home_leads (synthesized_too to_root is) = to_root
  home_leads (synthesized_too (to_child lead) is) = lead
  home_leads (synthesized_too (to_made u lead at n_is) is) = lead
  home_leads (inherited_too to_root is) = to_root
  home_leads (inherited_too (to_child lead) is) = lead
  home_leads (inherited_too (to_made u lead at n_is) is) = lead
  home_leads (tree_too u lead at is) = lead

  -- a step down from a node
  pub step_leads : {q r : Path} (u : Tree) (s : Step) → Leads q r → IsNodeAt a operations top q u
      → Leads (down q s) (down r (new_step t (production_of u) s))
  step_leads u (child k) lead at = to_child lead
  step_leads u (made m) lead at = to_made u lead at refl

  -- each path to a node becomes some path
  pub some_path : {q : Path} {u : Tree} → IsNodeAt a operations top q u → (r : Path) × Leads q r
  some_path at_root = (root, to_root)
  some_path (at_child {k = k} at is) = let (r, lead) = some_path at in (down r (child k), to_child lead)
  some_path (at_made {k = m} (by_walk {t = u} at ends)) =
      let (r, lead) = some_path at in (down r (made (new_made t (production_of u) m)), to_made u lead at refl)

  -- one path at most
  pub one_path : {q r w : Path} → Leads q r → Leads q w → r ≡ w
  one_path to_root to_root = refl
  one_path (to_child {k = k} one) (to_child other) = ap (λ z. down z (child k)) (one_path one other)
  one_path (to_made {m = m} {n = n} u one at is) (to_made {n = l} x other at' is') =
      let paths = one_path one other in
      let numbers : n ≡ l = is ∙ (ap (λ z. new_made t (production_of z) m) (one_node a operations top at at') ∙ sym is') in
      λ i. down (paths i) (made (numbers i))

  pub one_instance : {i j l : Instance} → Becomes i j → Becomes i l → j ≡ l
  one_instance (synthesized_too one is) (synthesized_too other is') =
      let paths = one_path one other in let numbers = is ∙ sym is' in λ i. synthesized_at (paths i) (numbers i)
  one_instance (inherited_too one is) (inherited_too other is') =
      let paths = one_path one other in let numbers = is ∙ sym is' in λ i. inherited_at (paths i) (numbers i)
  one_instance (tree_too {m = m} {n = n} u one at is) (tree_too {n = l} x other at' is') =
      let paths = one_path one other in
      let numbers : n ≡ l = is ∙ (ap (λ z. new_made t (production_of z) m) (one_node a operations top at at') ∙ sym is') in
      λ i. tree_at (paths i) (numbers i)

  -- no two become one
  module _ (s : NumberMap) (undone : AreNumbersUndoneBy t s) where
    made_once : (u x : Tree) (m k n l : Made) → u ≡ x → n ≡ new_made t (production_of u) m → l ≡ new_made t (production_of x) k → n ≡ l
        → m ≡ k
    made_once u x m k n l trees is is' same =
        sym (made_back undone (production_of u) m)
        ∙ (ap (new_made s (t.production (production_of u)))
        (sym is ∙ (same ∙ (is' ∙ ap (λ z. new_made t (production_of z) k) (sym trees))))
        ∙ made_back undone (production_of u) k)

    pub path_once : {q w r v : Path} → Leads q r → Leads w v → r ≡ v → q ≡ w
    path_once to_root to_root same = refl
    path_once to_root (to_child other) same = absurd (cc same)
    path_once to_root (to_made x other at is) same = absurd (cc same)
    path_once (to_child one) to_root same = absurd (cc same)
    path_once (to_child {r = r} {k = k} one) (to_child {r = v} {k = l} other) same =
        let rest : r ≡ v = cc same in
        let number : k ≡ l = cc same in
        let paths = path_once one other rest in
        λ i. down (paths i) (child (number i))
    path_once (to_child one) (to_made x other at is) same = absurd (cc same)
    path_once (to_made u one at is) to_root same = absurd (cc same)
    path_once (to_made u one at is) (to_child other) same = absurd (cc same)
    path_once (to_made {q = q} {r = r} {m = m} {n = n} u one at is) (to_made {q = w} {r = v} {m = k} {n = l} x other at' is') same =
        let rest : r ≡ v = cc same in
        let number : n ≡ l = cc same in
        let paths = path_once one other rest in
        let trees = one_node a operations top (subst (λ z. IsNodeAt a operations top z u) paths at) at' in
        let steps = made_once u x m k n l trees is is' number in
        λ i. down (paths i) (made (steps i))

    attribute_once : (y k z l : ℕ) → z ≡ t.attribute y → l ≡ t.attribute k → z ≡ l → y ≡ k
    attribute_once y k z l is is' same =
        sym (undone.attribute y) ∙ (ap s.attribute (sym is ∙ (same ∙ is')) ∙ undone.attribute k)

    pub instance_once : {i j k l : Instance} → Becomes i k → Becomes j l → k ≡ l → i ≡ j
    instance_once (synthesized_too {r = r} {y = y} {z = z} one is) (synthesized_too {r = v} {y = k} {z = l} other is') same =
        let rest : r ≡ v = cc same in
        let number : z ≡ l = cc same in
        let paths = path_once one other rest in
        let numbers = attribute_once y k z l is is' number in
        λ i. synthesized_at (paths i) (numbers i)
    instance_once (inherited_too {r = r} {y = y} {z = z} one is) (inherited_too {r = v} {y = k} {z = l} other is') same =
        let rest : r ≡ v = cc same in
        let number : z ≡ l = cc same in
        let paths = path_once one other rest in
        let numbers = attribute_once y k z l is is' number in
        λ i. inherited_at (paths i) (numbers i)
    instance_once (tree_too {r = r} {m = m} {n = n} u one at is) (tree_too {r = v} {m = k} {n = l} x other at' is') same =
        let rest : r ≡ v = cc same in
        let number : n ≡ l = cc same in
        let paths = path_once one other rest in
        let trees = one_node a operations top (subst (λ z. IsNodeAt a operations top z u) paths at) at' in
        let steps = made_once u x m k n l trees is is' number in
        λ i. tree_at (paths i) (steps i)
    instance_once (synthesized_too one is) (inherited_too other is') same = absurd (cc same)
    instance_once (synthesized_too one is) (tree_too x other at is') same = absurd (cc same)
    instance_once (inherited_too one is) (synthesized_too other is') same = absurd (cc same)
    instance_once (inherited_too one is) (tree_too x other at is') same = absurd (cc same)
    instance_once (tree_too u one at is) (synthesized_too other is') same = absurd (cc same)
    instance_once (tree_too u one at is) (inherited_too other is') same = absurd (cc same)
