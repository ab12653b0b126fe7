-- An instance has at most one outcome, and a path at most one tree.
use Rattle.std.proofs.Common.{◌≡◌, refl, sym, subst}
use Rattle.wb_operations.specs.Operations.{Operations}
use Rattle.wb_values.specs.Tree.{Tree}
use Rattle.wb_eval_theory.specs.Answers.{IsNodeAt, at_root, at_child, at_made, HasAnswer, by_walk, Ends, at_done, at_value, at_fault}
use Rattle.wb_eval_theory.specs.Instances.{Path, Instance}
use Rattle.wb_eval_theory.specs.Laws.{HasOneAnswer}
use Rattle.wb_eval_theory.specs.Walks.{Outcome, Walk, walk_of}
use Rattle.wb_syntax_resolved.specs.declared.attribution.AttributionParts.{AttributionParts}

module _ (a : AttributionParts) (operations : Operations) (top : Tree) where
  mutual
    pub one_node : {q : Path} {t u : Tree} → IsNodeAt a operations top q t → IsNodeAt a operations top q u → t ≡ u
    one_node at_root at_root = refl
    one_node (at_child n e) (at_child m f) = let h = one_node n m in cc
    one_node (at_made p) (at_made r) = let h = one_answer p r in cc

    pub one_answer : {i : Instance} {o p : Outcome} → HasAnswer a operations top i o → HasAnswer a operations top i p → o ≡ p
    one_answer {i} {o} {p} (by_walk n e) (by_walk m f) =
        one_end e (subst (λ t. Ends a operations top (walk_of operations a i t) p) (sym (one_node n m)) f)

    pub one_end : {w : Walk} {o p : Outcome} → Ends a operations top w o → Ends a operations top w p → o ≡ p
    one_end at_done at_done = refl
    one_end {p = p} (at_value {next = next} {v = v} r e) (at_value {v = u} s f) =
        let h = one_answer r s in
        let same : u ≡ v = cc in
        one_end e (subst (λ x. Ends a operations top (next x) p) same f)
    one_end (at_value r e) (at_fault s) = let h = one_answer r s in cc
    one_end (at_fault r) (at_value s f) = let h = one_answer r s in cc
    one_end (at_fault r) (at_fault s) = let h = one_answer r s in cc

  pub has_one_answer : HasOneAnswer a operations top
  has_one_answer = record {
    answer = λ i first second p r. one_answer p r;
    node = λ q t u p r. one_node p r;
  }
