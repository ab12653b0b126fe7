use Rattle.wb_grammar_theory.proofs.ShiftLemmas.{tree_shifts, start_accepts, leaf_valid}
use Rattle.wb_grammar_theory.proofs.laws.shift_law.Goals as goal

pub returns : goal.returns
returns c = record { leaf = tree_shifts; end = start_accepts; valid = leaf_valid }
