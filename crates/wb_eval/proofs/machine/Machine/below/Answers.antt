use Rattle.std.proofs.Common.{rules, None, arith}
use Rattle.wb_eval_memo.proofs.MemoLemmas.{grown_same}
use Rattle.wb_eval.proofs.machine.Machine.below.Goals as goal

pub returns-else-found-eq0-clause-grown : goal.returns-else-found-eq0-clause-grown
returns-else-found-eq0-clause-grown c =
    grown_same c.args.self.now.memo c.args.site c.args.step None c.requires.whole

pub returns-else-found-eq0-clause-site : goal.returns-else-found-eq0-clause-site
returns-else-found-eq0-clause-site c =
    (None, (λ more. absurd (omega (arith, more))), c.find-found.ensures.site (search rules) None)
