use Rattle.std.proofs.lemmas.Result.{IfOk-weaker}
use Rattle.wb_grammar.proofs.LeastSetLemmas.{nullable_exact}
use Rattle.wb_grammar.proofs.analysis.nullable_in.Goals as goal

pub returns : goal.returns
returns c = IfOk-weaker c.least_set.result _ _ (λ set h. nullable_exact c.args.grammar.now set h) c.least_set.ensures
