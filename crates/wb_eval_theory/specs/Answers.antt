-- The value or fault that the equations fix for an instance.
use Rattle.std.specs.Prelude.{◌≡◌, ℕ, Some}
use Rattle.wb_operations.specs.Operations.{Operations}
use Rattle.wb_values.specs.Tree.{Tree, Value, tree, children_of, value_at}
use Rattle.wb_flow_theory.specs.Vertices.{Made, child, made}
use Rattle.wb_eval_theory.specs.Instances.{Path, root, down, Instance, tree_at, home}
use Rattle.wb_eval_theory.specs.Walks.{Outcome, value, fault, Walk, done, read, walk_of}
use Rattle.wb_syntax_resolved.specs.declared.attribution.AttributionParts.{AttributionParts}

module _ (a : AttributionParts) (operations : Operations) (top : Tree) where
  mutual
    -- the tree at a path: that of a local or forward is what its expression makes
    pub data IsNodeAt : Path → Tree → Type 0 where
      at_root : IsNodeAt root top
      at_child : {q : Path} {k : ℕ} {t u : Tree} → IsNodeAt q t → value_at (children_of t) k ≡ Some (tree u) → IsNodeAt (down q (child k)) u
      at_made : {q : Path} {k : Made} {u : Tree} → HasAnswer (tree_at q k) (value (tree u)) → IsNodeAt (down q (made k)) u

    -- the instance has the outcome: the least relation that walks give
    pub data HasAnswer : Instance → Outcome → Type 0 where
      by_walk : {i : Instance} {t : Tree} {o : Outcome} → IsNodeAt (home i) t → Ends (walk_of operations a i t) o → HasAnswer i o

    -- the walk ends with the outcome; the first fault that is read is the outcome
    pub data Ends : Walk → Outcome → Type 0 where
      at_done : {o : Outcome} → Ends (done o) o
      at_value : {r : Instance} {next : Value → Walk} {v : Value} {o : Outcome} → HasAnswer r (value v) → Ends (next v) o
          → Ends (read r next) o
      at_fault : {r : Instance} {next : Value → Walk} {operation code : ℕ} → HasAnswer r (fault operation code)
          → Ends (read r next) (fault operation code)
