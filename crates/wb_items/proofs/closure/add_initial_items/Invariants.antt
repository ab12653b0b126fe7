use Rattle.std.proofs.Common.{◌≡◌, ◌++◌, drop, map}
use Rattle.wb_grammar_theory.specs.Items.{initial_item}
use Rattle.wb_items.proofs.closure.add_initial_items.Given as goal

abbrev pub invariant-productions : goal.invariant-productions
invariant-productions l = l.closure.items ++ map initial_item
    (drop l.production-index l.productions) ≡ l.initial.closure.items ++ map initial_item l.productions
