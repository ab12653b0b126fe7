use Rattle.std.proofs.Common.{◌≡◌, ◌++◌, ◌<◌, ◌≤◌, length}
use Rattle.wb_values.specs.ValuesIn.{tree_in}
use Rattle.wb_terms.specs.Inner.ShortNames.{AreShort}
use Rattle.wb_terms.specs.Inner.Pending.{next_text, tree_weight}
use Rattle.wb_terms.proofs.print.print_names.Given as goal

abbrev pub invariant-names : goal.invariant-names
invariant-names l =
    (l.out.items ++ next_text l.signatures l.store l.tree.0 l.closes
    ≡ l.fn.out.items ++ next_text l.signatures l.store l.fn.next.tree.0 l.fn.next.closes)
    × (tree_weight (tree_in l.store l.tree.0) ≤ tree_weight (tree_in l.store l.fn.next.tree.0)) × (l.tree.0 < length l.store) × AreShort l.signatures l.names.short.items

abbrev pub decreases-names : goal.decreases-names
decreases-names l = l.tree.0
