-- Trees and values in other numbers: there and back, and what is in them.
use Rattle.std.proofs.Common.{◌≡◌, ℕ, zero, suc, ◌∷◌, option_map, refl, ap}
use Rattle.wb_eval_theory.specs.Walks.{Outcome, fault, plains, value}
use Rattle.wb_compose_theory_attributes.specs.Numbers.{NumberMap}
use Rattle.wb_values.specs.Tree.{Tree, node, Value, plain, tree, Values, empty, more, children_of, production_of, value_at}
use Rattle.wb_compose_theory_attribute_order.specs.Renumberings.{AreNumbersUndoneBy}
use Rattle.wb_compose_theory_attribute_order.specs.Values.{renamed_outcome, renamed_tree, renamed_value, renamed_values}

module _ {t u : NumberMap} (undone : AreNumbersUndoneBy t u) where
  mutual
    pub tree_back : (x : Tree) → renamed_tree u (renamed_tree t x) ≡ x
    tree_back (node p vs) = let one = undone.production p in let other = values_back vs in λ i. node (one i) (other i)

    pub value_back : (v : Value) → renamed_value u (renamed_value t v) ≡ v
    value_back (plain c) = refl
    value_back (tree x) = ap tree (tree_back x)

    pub values_back : (vs : Values) → renamed_values u (renamed_values t vs) ≡ vs
    values_back empty = refl
    values_back (more v vs) = let one = value_back v in let other = values_back vs in λ i. more (one i) (other i)

  pub outcome_back : (o : Outcome) → renamed_outcome u (renamed_outcome t o) ≡ o
  outcome_back (value v) = ap value (value_back v)
  outcome_back (fault operation code) = refl

module _ (t : NumberMap) where
  -- what is below a tree, and its production
  pub children_renamed : (x : Tree) → children_of (renamed_tree t x) ≡ renamed_values t (children_of x)
  children_renamed (node p vs) = refl

  pub production_renamed : (x : Tree) → production_of (renamed_tree t x) ≡ t.production (production_of x)
  production_renamed (node p vs) = refl

  -- the value at a place, and the plain ones
  pub value_at_renamed : (vs : Values) (k : ℕ) → value_at (renamed_values t vs) k ≡ option_map (renamed_value t) (value_at vs k)
  value_at_renamed empty k = refl
  value_at_renamed (more v vs) zero = refl
  value_at_renamed (more v vs) (suc k) = value_at_renamed vs k

  pub plains_renamed : (vs : Values) → plains (renamed_values t vs) ≡ plains vs
  plains_renamed empty = refl
  plains_renamed (more (plain c) vs) = ap (λ z. c ∷ z) (plains_renamed vs)
  plains_renamed (more (tree x) vs) = plains_renamed vs
