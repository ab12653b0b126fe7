-- Equations that are found by their targets.
use Rattle.wb_eval_rows.specs.Sparse.{IsForest}
use Rattle.wb_eval_rules.specs.declared.equations.Equations.{Equations}

-- the numbers can be found
pub record AreFound (index : Equations) : Type 0 where
  pub tops : IsForest index.tops
  pub forwards : IsForest index.forwards
  pub children : IsForest index.children
  pub locals : IsForest index.locals
