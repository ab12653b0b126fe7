-- Where the children of a node begin.
use Rattle.std.specs.Prelude.{ℕ, zero, suc, List, [], ◌∷◌}
use Rattle.wb_values.specs.declared.node.Node.{Node}

-- the end of the children of the node before the place, and the start before the first node
abbrev pub begin : ℕ → List Node → ℕ → ℕ
begin start ns zero = start
begin start [] (suc k) = start
begin start (n ∷ ns) (suc k) = begin n.end ns k
