-- What is asked at the root is answered alike in other numbers, needs as much, and is printed alike.
use Rattle.std.proofs.Common.{◌≡◌, ◌∙◌, ◌++◌, ◌∷◌, [], ℕ, zero, suc, List, Option, Some, None, map, slice_get, refl, sym, ap, subst}
use Rattle.wb_eval_theory.specs.Answers.{HasAnswer}
use Rattle.wb_eval_theory.specs.Instances.{root, synthesized_at}
use Rattle.wb_eval_theory.specs.Needed.{NeedsMoreThan}
use Rattle.wb_eval_theory.specs.Walks.{Outcome}
use Rattle.wb_operations.specs.Operations.{Operations}
use Rattle.wb_syntax_resolved.specs.Attribution.{IsAttribution}
use Rattle.wb_syntax_resolved.specs.declared.attribution.AttributionParts.{AttributionParts}
use Rattle.wb_syntax_resolved.specs.declared.production.Production.{Production}
use Rattle.wb_syntax_resolved.specs.Numbered.{signature_of}
use Rattle.wb_syntax_resolved.specs.Owners.{printed_name}
use Rattle.wb_terms.specs.Printed.{name_of, printed_children, printed_others, printed_tree}
use Rattle.wb_values.specs.Tree.{Tree, node, Value, plain, tree, Values, empty, more}
use Rattle.wb_compose_theory_attribute_order.specs.Attributions.{IsSameAttribution}
use Rattle.wb_compose_theory_attribute_order.specs.Laws.{HasSameAnswers, HasSameNeeds, IsPrintedAlike}
use Rattle.wb_compose_theory_attribute_order.specs.Renumberings.{Renumbering}
use Rattle.wb_compose_theory_attribute_order.specs.Values.{renamed_outcome, renamed_tree, renamed_values}
use Rattle.wb_compose_theory_attribute_order.proofs.AnswerLemmas.{answer_there}
use Rattle.wb_compose_theory_attribute_order.proofs.NeedLemmas.{more_there}
use Rattle.wb_compose_theory_attribute_order.proofs.PathLemmas.{synthesized_too, to_root}
use Rattle.wb_compose_theory_attribute_order.proofs.RowLemmas.{name_same, same_back}
use Rattle.wb_compose_theory_attribute_order.proofs.RuleLemmas.{same_rules}
use Rattle.wb_compose_theory_attribute_order.proofs.ValueLemmas.{outcome_back, tree_back}

module _ (r s : Renumbering) (a b : AttributionParts) (is : IsAttribution a) (ok : IsAttribution b) (same : IsSameAttribution r s a b)
    (operations : Operations) (top : Tree) where
  answers_there : (y : ℕ) (o : Outcome) → HasAnswer a operations top (synthesized_at root y) o
      → HasAnswer b operations (renamed_tree r.numbers top) (synthesized_at root (r.numbers.attribute y)) (renamed_outcome r.numbers o)
  answers_there y o has =
      answer_there r.numbers a b operations top (same_rules operations is ok same) has (synthesized_too to_root refl)

  needs_there : (y n : ℕ) → NeedsMoreThan a operations top (synthesized_at root y) n
      → NeedsMoreThan b operations (renamed_tree r.numbers top) (synthesized_at root (r.numbers.attribute y)) n
  needs_there y n needed =
      more_there r.numbers a b operations top (same_rules operations is ok same) (synthesized_too to_root refl) s.numbers
      same.undone.numbers n needed

module _ (r s : Renumbering) (a b : AttributionParts) (is : IsAttribution a) (ok : IsAttribution b) (same : IsSameAttribution r s a b) where
  pub same_answers : (operations : Operations) (top : Tree) → HasSameAnswers r.numbers a b operations top
  same_answers operations top y o = (answers_there r s a b is ok same operations top y o, back) where
    back : HasAnswer b operations (renamed_tree r.numbers top) (synthesized_at root (r.numbers.attribute y)) (renamed_outcome r.numbers o)
        → HasAnswer a operations top (synthesized_at root y) o
    back has =
        subst (λ z. HasAnswer a operations z (synthesized_at root y) o) (tree_back same.undone.numbers top)
        (subst (λ z. HasAnswer a operations (renamed_tree s.numbers (renamed_tree r.numbers top)) (synthesized_at root z) o)
        (same.undone.numbers.attribute y)
        (subst (HasAnswer a operations (renamed_tree s.numbers (renamed_tree r.numbers top))
        (synthesized_at root (s.numbers.attribute (r.numbers.attribute y)))) (outcome_back same.undone.numbers o)
        (answers_there s r b a ok is (same_back same) operations (renamed_tree r.numbers top) (r.numbers.attribute y)
        (renamed_outcome r.numbers o) has)))

  pub same_needs : (operations : Operations) (top : Tree) → HasSameNeeds r.numbers a b operations top
  same_needs operations top y n = (needs_there r s a b is ok same operations top y n, back) where
    back : NeedsMoreThan b operations (renamed_tree r.numbers top) (synthesized_at root (r.numbers.attribute y)) n
        → NeedsMoreThan a operations top (synthesized_at root y) n
    back needed =
        subst (λ z. NeedsMoreThan a operations z (synthesized_at root y) n) (tree_back same.undone.numbers top)
        (subst (λ z. NeedsMoreThan a operations (renamed_tree s.numbers (renamed_tree r.numbers top)) (synthesized_at root z) n)
        (same.undone.numbers.attribute y)
        (needs_there s r b a ok is (same_back same) operations (renamed_tree r.numbers top) (r.numbers.attribute y) n needed))

-- the name of a production that may be there
abbrev name_at : List (List ℕ) → Option Production → List ℕ
name_at extensions None = []
name_at extensions (Some row) = printed_name extensions row.owner row.name

names_are : (extensions : List (List ℕ)) (rows : List Production) (p : ℕ)
    → name_of (map (signature_of extensions) rows) p ≡ name_at extensions (slice_get rows p)
names_are extensions [] p = refl
names_are extensions (row ∷ rows) zero = refl
names_are extensions (row ∷ rows) (suc p) = names_are extensions rows p

signature_names : (a : AttributionParts) → IsAttribution a → (p : ℕ) → name_of a.signatures p ≡ name_at a.extensions (slice_get a.productions p)
signature_names a is p = ap (λ z. name_of z p) is.numbered.signatures ∙ names_are a.extensions a.productions p

module _ {r s : Renumbering} {a b : AttributionParts} (is : IsAttribution a) (ok : IsAttribution b) (same : IsSameAttribution r s a b) where
  production_named : (p : ℕ) → name_at b.extensions (slice_get b.productions (r.numbers.production p))
      ≡ name_at a.extensions (slice_get a.productions p)
  production_named p = go (slice_get a.productions p) (slice_get b.productions (r.numbers.production p)) refl refl where
    go : (o other : Option Production) → slice_get a.productions p ≡ o → slice_get b.productions (r.numbers.production p) ≡ other
        → name_at b.extensions other ≡ name_at a.extensions o
    go None None at at' = refl
    go None (Some row) at at' =
        let (there, here, lead) = same.back.productions (r.numbers.production p) row at' in
        let back = subst (λ z. slice_get a.productions z ≡ Some there) (same.undone.numbers.production p) here in
        absurd (cc (at, back))
    go (Some row) other at at' =
        let (there, here, lead) = same.there.productions p row at in
        ap (name_at b.extensions) (sym at' ∙ here)
        ∙ ((λ i. printed_name b.extensions (lead.owner i) (lead.name i)) ∙ name_same same row.owner row.name)

  name_alike : (p : ℕ) → name_of b.signatures (r.numbers.production p) ≡ name_of a.signatures p
  name_alike p =
      signature_names b ok (r.numbers.production p) ∙ (production_named p ∙ sym (signature_names a is p))

  mutual
    tree_alike : (u : Tree) → printed_tree b.signatures (renamed_tree r.numbers u) ≡ printed_tree a.signatures u
    tree_alike (node p vs) =
        let name = name_alike p in let below = children_alike vs in λ i. name i ++ 40 ∷ (below i ++ 41 ∷ [])

    pub value_alike : (v : Value) → IsPrintedAlike r.numbers a b v
    value_alike (plain c) = refl
    value_alike (tree u) = tree_alike u

    children_alike : (vs : Values) → printed_children b.signatures (renamed_values r.numbers vs) ≡ printed_children a.signatures vs
    children_alike empty = refl
    children_alike (more v vs) = let first = value_alike v in let rest = others_alike vs in λ i. first i ++ rest i

    others_alike : (vs : Values) → printed_others b.signatures (renamed_values r.numbers vs) ≡ printed_others a.signatures vs
    others_alike empty = refl
    others_alike (more v vs) = let first = value_alike v in let rest = others_alike vs in λ i. 44 ∷ 32 ∷ (first i ++ rest i)
