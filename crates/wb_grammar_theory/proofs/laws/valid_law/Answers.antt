use Rattle.wb_grammar_theory.proofs.ValidLemmas.{same_valid, same_conflict}
use Rattle.wb_grammar_theory.proofs.laws.valid_law.Goals as goal

pub returns : goal.returns
returns c = record { valid = same_valid; conflict = same_conflict }
