use Rattle.wb_compose_theory_grammar.proofs.PieceLemmas.{piece_is}
use Rattle.wb_compose_theory_grammar.proofs.laws.piece_law.Goals as goal

pub returns : goal.returns
returns c = piece_is
