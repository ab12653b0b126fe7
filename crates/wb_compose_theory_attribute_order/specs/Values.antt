-- Trees, values and outcomes in other numbers.
use Rattle.wb_eval_theory.specs.Walks.{Outcome, fault, value}
use Rattle.wb_compose_theory_attributes.specs.Numbers.{NumberMap}
use Rattle.wb_values.specs.Tree.{Tree, node, Value, plain, tree, Values, empty, more}

module _ (t : NumberMap) where
  -- with new numbers for productions, and the same plain values
  abbrev mutual
    pub renamed_tree : Tree → Tree
    renamed_tree (node p vs) = node (t.production p) (renamed_values vs)

    pub renamed_value : Value → Value
    renamed_value (plain c) = plain c
    renamed_value (tree u) = tree (renamed_tree u)

    pub renamed_values : Values → Values
    renamed_values empty = empty
    renamed_values (more v vs) = more (renamed_value v) (renamed_values vs)

  -- the value in new numbers, or the same fault
  abbrev pub renamed_outcome : Outcome → Outcome
  renamed_outcome (value v) = value (renamed_value v)
  renamed_outcome (fault operation code) = fault operation code
