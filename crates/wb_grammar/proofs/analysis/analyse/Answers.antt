use Rattle.std.proofs.Common.{subst, sym}
use Rattle.wb_grammar_theory.proofs.LiveLemmas.{reduced_live}
use Rattle.wb_grammar.specs.Facts.{AreFirstSets}
use Rattle.wb_grammar.proofs.analysis.analyse.Goals as goal

pub returns-clause-ok : goal.returns-clause-ok
returns-clause-ok c = record {
  reduced = c.in_ok-test_reduced.ensures.ok;
  live = reduced_live c.args.grammar.now c.in_ok-first.ensures.grammar c.in_ok-test_reduced.ensures.ok;
  no_unit_cycle = c.in_ok-test_unit_cycles.ensures.ok;
  no_hidden_left_recursion = c.in_ok-test_hidden_left_recursion.ensures.ok;
  nullable = c.in_ok-nullable.ensures;
  first = subst (AreFirstSets c.args.grammar.now) (sym c.first.view_is) c.in_ok-first.ensures.exact;
}
