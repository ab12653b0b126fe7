use Rattle.wb_grammar_theory.proofs.ClosureLemmas.{closure_sound, closure_complete}
use Rattle.wb_grammar_theory.proofs.laws.closure_law.Goals as goal

pub returns : goal.returns
returns c g live prefix item = (λ h. closure_complete h.1, closure_sound prefix live)
