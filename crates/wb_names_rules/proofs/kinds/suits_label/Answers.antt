use Rattle.std.proofs.Common.{ℕ, List}
use denote.Bor.{Bor}
use Rattle.wb_names_rules.proofs.KindLemmas.{tells_tree}
use Rattle.wb_names_rules.proofs.kinds.suits_label.Goals as goal

pub returns-in_ok-tree_of-in-Tree : goal.returns-in_ok-tree_of-in-Tree
returns-in_ok-tree_of-in-Tree c =
    tells_tree c.args.index.now (λ (x : Bor (List ℕ)). x.now) c.args.is.now c.args.wanted c.in_ok-tree_of-in-Tree.field-0 c.is_some.result
    c.in-Tree.is c.is_some.ensures c.in_ok-tree_of-in-Tree.ensures
