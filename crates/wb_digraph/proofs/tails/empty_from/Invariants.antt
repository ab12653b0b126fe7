use Rattle.std.proofs.Common.{◌≤◌, [], length, drop}
use Rattle.wb_grammar_theory.specs.Derives.{Derives}
use Rattle.wb_digraph.proofs.tails.empty_from.Given as goal

abbrev pub invariant-symbols : goal.invariant-symbols
invariant-symbols l = record {
  within : l.from ≤ length l.symbols;
  empty : Derives l.grammar (drop l.from l.symbols) [];
}

abbrev pub decreases-symbols : goal.decreases-symbols
decreases-symbols l = l.from
