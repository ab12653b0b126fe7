use Rattle.std.proofs.Common.{◌≡◌, ◌++◌, ◌∷◌, length, reverse}
use Rattle.wb_values.specs.ValuesIn.{tree_in}
use Rattle.wb_terms.specs.Printed.{printed_tree}
use Rattle.wb_terms.specs.Inner.ShortNames.{AreShort}
use Rattle.wb_terms.specs.Inner.Pending.{current_text, weight_left, ArePendingIn}
use Rattle.wb_terms.proofs.print.print_tree.Given as goal

abbrev pub invariant-print : goal.invariant-print
invariant-print l =
    (l.out.items ++ current_text l.signatures l.store l.pending.values l.current (reverse l.pending.begun.items)
    ≡ l.fn.out.items ++ printed_tree l.signatures (tree_in l.store l.fn.tree.0))
    × ArePendingIn (length l.store) l.pending.values (l.current.begun ∷ reverse l.pending.begun.items)
    × AreShort l.signatures l.pending.names.short.items

abbrev pub decreases-print : goal.decreases-print
decreases-print l = weight_left l.store l.pending.values (l.current.begun ∷ reverse l.pending.begun.items)
