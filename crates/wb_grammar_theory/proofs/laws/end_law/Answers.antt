use Rattle.wb_grammar_theory.proofs.ShiftLemmas.{top_end}
use Rattle.wb_grammar_theory.proofs.laws.end_law.Goals as goal

pub returns : goal.returns
returns c g prefix item t is (other, same, valid) = top_end valid is
