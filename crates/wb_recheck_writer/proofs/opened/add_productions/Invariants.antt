use Rattle.wb_recheck_writer.specs.Inner.Reached.{AreInitialIn, AreReached, IsSource, grammar_of, lines_of}
use Rattle.wb_recheck_writer.proofs.opened.add_productions.Given as goal

abbrev pub invariant-productions : goal.invariant-productions
invariant-productions l = record {
  reached : AreReached (grammar_of l.context) (lines_of l.context) l.entries l.opening.source.place;
  at : IsSource l.entries l.opening.source;
  initial : AreInitialIn l.opening l.numbers l.entries l.place;
}
