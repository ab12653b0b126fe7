use Rattle.wb_digraph.specs.Inner.Numbers.{AreTailsUpTo}
use Rattle.wb_digraph.proofs.tails.tails_of.Given as goal

abbrev pub invariant-productions : goal.invariant-productions
invariant-productions l = AreTailsUpTo l.grammar l.production l.tails.items
