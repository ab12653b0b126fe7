use Rattle.std.proofs.Common.{arith, min}
use Rattle.wb_explain_places.proofs.WindowLemmas.{run_within}
use Rattle.wb_explain_places.proofs.window.broken.Goals as goal

pub returns-clause-within : goal.returns-clause-within
returns-clause-within c = omega (arith, c.continued.ensures, run_within c.args.bytes.now c.min.result)
