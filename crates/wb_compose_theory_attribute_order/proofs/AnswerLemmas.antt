-- An instance has the same answers in other numbers, and a path leads to the same nodes.
use Rattle.std.proofs.Common.{◌∙◌, option_map, sym, ap, subst}
use Rattle.wb_eval_theory.specs.Answers.{IsNodeAt, HasAnswer, Ends, at_root, at_child, at_made, by_walk, at_done, at_value, at_fault}
use Rattle.wb_eval_theory.specs.Instances.{Path, Instance}
use Rattle.wb_eval_theory.specs.Walks.{Outcome, Walk, done}
use Rattle.wb_operations.specs.Operations.{Operations}
use Rattle.wb_syntax_resolved.specs.declared.attribution.AttributionParts.{AttributionParts}
use Rattle.wb_compose_theory_attributes.specs.Numbers.{NumberMap}
use Rattle.wb_values.specs.Tree.{Tree, children_of, value_at}
use Rattle.wb_compose_theory_attribute_order.specs.Values.{renamed_outcome, renamed_tree, renamed_value}
use Rattle.wb_compose_theory_attribute_order.proofs.PathLemmas.{Becomes, Leads, home_leads, to_child, to_made, to_root, tree_too}
use Rattle.wb_compose_theory_attribute_order.proofs.RuleLemmas.{HasSameRules}
use Rattle.wb_compose_theory_attribute_order.proofs.ValueLemmas.{children_renamed, value_at_renamed}
use Rattle.wb_compose_theory_attribute_order.proofs.WalkLemmas.{Alike, both_done, both_read, walks_on}

module _ (t : NumberMap) (a b : AttributionParts) (operations : Operations) (top : Tree) (same : HasSameRules operations t a b) where
  mutual
    -- a node is in the other at the new path
    pub node_there : {q r : Path} {u : Tree} → IsNodeAt a operations top q u → Leads t a operations top q r
        → IsNodeAt b operations (renamed_tree t top) r (renamed_tree t u)
    node_there at_root to_root = at_root
    node_there (at_child {k = k} {t = w} at is) (to_child lead) =
        at_child (node_there at lead)
        (ap (λ z. value_at z k) (children_renamed t w) ∙ (value_at_renamed t (children_of w) k ∙ ap (option_map (renamed_value t)) is))
    node_there (at_made has) (to_made w lead at is) = at_made (answer_there has (tree_too w lead at is))

    pub answer_there : {i j : Instance} {o : Outcome} → HasAnswer a operations top i o → Becomes t a operations top i j
        → HasAnswer b operations (renamed_tree t top) j (renamed_outcome t o)
    answer_there (by_walk {t = u} at ends) becomes =
        by_walk (node_there at (home_leads t a operations top becomes))
        (ends_there ends (walks_on t a operations top b same becomes u at))

    ends_there : {w v : Walk} {o : Outcome} → Ends a operations top w o → Alike t a operations top w v
        → Ends b operations (renamed_tree t top) v (renamed_outcome t o)
    ends_there {o = o} at_done (both_done is) =
        subst (λ z. Ends b operations (renamed_tree t top) (done z) (renamed_outcome t o)) (sym is) at_done
    ends_there (at_value has ends) (both_read becomes on) = at_value (answer_there has becomes) (ends_there ends (on _ has))
    ends_there (at_fault has) (both_read becomes on) = at_fault (answer_there has becomes)
