-- Nodes of a production over children, by what is at each place.
use Rattle.std.proofs.Common.{◌≡◌, ◌<◌, ◌+◌, ◌-◌, ℕ, suc, List, [], ◌∷◌, ◌++◌, length, drop, refl, sym, ◌∙◌, ap, arith}
use Rattle.std.proofs.Common.{inl, inr, length-append}
use Rattle.std.specs.Prelude.{Some, slice_get}
use Rattle.std.proofs.lemmas.Bool.{cases_order}
use Rattle.wb_values.specs.Tree.{Tree, Values, node, empty, more, value_at, count_of, production_of, children_of}
use Rattle.wb_values.specs.ValuesIn.{tree_in, value_in, values_in, last}
use Rattle.wb_values.specs.declared.value.Value.{Value}
use Rattle.wb_values.proofs.CallerLemmas.{tree_in_push}
use Rattle.wb_session.specs.Inner.Nodes.{IsNode, AreFirst}

-- values that are the same at each place are the same
pub same_values : (trees : List Tree) (vs : Values) (children : List Value) → count_of vs ≡ length children →
    AreFirst trees vs children (length children) → vs ≡ values_in trees children
same_values trees empty [] size are = refl
same_values trees empty (v ∷ children) size are = absurd (omega (arith, size))
same_values trees (more u us) [] size are = absurd (omega (arith, size))
same_values trees (more u us) (v ∷ children) size are =
    let here : Some u ≡ Some (value_in trees v) = are 0 v (omega arith) refl in
    let first : u ≡ value_in trees v = cc in
    let rest = same_values trees us children (omega (arith, size)) (λ i w lt at. are (suc i) w (omega (arith, lt)) at) in
    (λ k. more (first k) (rest k))

node_parts : (t : Tree) → t ≡ node (production_of t) (children_of t)
node_parts (node p vs) = refl

-- a tree of this production and these children is that node
pub node_is : (trees : List Tree) (p id : ℕ) (children : List Value) → id < length trees → production_of (tree_in trees id) ≡ p →
    count_of (children_of (tree_in trees id)) ≡ length children →
    AreFirst trees (children_of (tree_in trees id)) children (length children) → IsNode trees p (values_in trees children) id
node_is trees p id children held p_is size are =
    let t = tree_in trees id in
    let vs = same_values trees (children_of t) children size are in
    record { held = held; is = node_parts t ∙ (λ k. node (p_is k) (vs k)) }

-- one more child
pub first_more : (trees : List Tree) (vs : Values) (children : List Value) (n : ℕ) (v : Value) → slice_get children n ≡ Some v →
    value_at vs n ≡ Some (value_in trees v) → AreFirst trees vs children n → AreFirst trees vs children (n + 1)
first_more trees vs children n v at is are i w lt at_w = elim (cases_order i n) [
  | inl same ↦ (let e : Some w ≡ Some v = sym at_w ∙ (ap (slice_get children) same ∙ at) in
      let w_is : v ≡ w = cc in ap (value_at vs) same ∙ is ∙ ap (λ z. Some (value_in trees z)) w_is)
  | inr (inl less) ↦ are i w less at_w
  | inr (inr gt) ↦ absurd (omega (arith, gt, lt))
]

-- a node that is added
pub node_added : (trees trees' : List Tree) (p id count : ℕ) (children : List Value) → count ≡ length children → id ≡ length trees →
    trees' ≡ trees ++ node p (values_in trees (last count children)) ∷ [] → IsNode trees' p (values_in trees children) id
node_added trees trees' p id count children all id_is is =
    let none : length children - count ≡ 0 = omega (arith, all) in
    let these : last count children ≡ children = ap (λ k. drop k children) none in
    let made : trees' ≡ trees ++ node p (values_in trees children) ∷ [] =
    is ∙ ap (λ z. trees ++ node p (values_in trees z) ∷ []) these in
    record {
      held = let size = ap length made ∙ length-append trees (node p (values_in trees children) ∷ []) in omega (arith, id_is, size);
      is = (λ k. tree_in (made k) (id_is k)) ∙ tree_in_push trees [] (node p (values_in trees children));
    }
