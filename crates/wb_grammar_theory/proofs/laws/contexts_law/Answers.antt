use Rattle.wb_grammar_theory.proofs.ContextLemmas.{context_listed, listed_context}
use Rattle.wb_grammar_theory.proofs.laws.contexts_law.Goals as goal

pub returns : goal.returns
returns c tree x = (context_listed, listed_context tree x)
