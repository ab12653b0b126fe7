use Rattle.std.proofs.Common.{◌≡◌, ◌++◌, drop}
use Rattle.wb_grammar.specs.Inner.Edges.{edges_of}
use Rattle.wb_grammar.proofs.edges.add_edges.Given as goal

abbrev pub invariant-symbols : goal.invariant-symbols
invariant-symbols l = l.edges.items ++ edges_of l.left (drop l.symbol-index l.symbols) ≡ l.initial.edges.items ++ edges_of l.left l.symbols
