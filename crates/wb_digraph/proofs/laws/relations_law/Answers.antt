use Rattle.wb_grammar_theory.specs.States.{IsNext}
use Rattle.wb_digraph.proofs.RelationComplete.{relations_exact}
use Rattle.wb_digraph.proofs.laws.relations_law.Goals as goal

pub returns : goal.returns
returns c g live count prefix_of h s less item t = relations_exact g count prefix_of (IsNext g count prefix_of) live h s less item t
