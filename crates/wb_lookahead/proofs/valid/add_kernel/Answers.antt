use Rattle.std.proofs.Common.{◌+◌, Bool, List, sym, subst}
use Rattle.wb_lookahead.specs.Inner.Valid.{AreClearUpTo}
use Rattle.wb_lookahead.proofs.ValidLemmas.{clear_more}
use Rattle.wb_lookahead.proofs.valid.add_kernel.Goals as goal

pub returns-in_ok-push-in-Some-clause-ok : goal.returns-in_ok-push-in-Some-clause-ok
returns-in_ok-push-in-Some-clause-ok c =
    subst (λ (sets : List (List Bool)). AreClearUpTo c.args.kernels.now sets (c.args.state + 1)) (sym c.in_ok-push-in-Some.ensures.ok)
    (clear_more c.args.sets.now.items c.in-Some.set c.args.state c.requires.before (rw c.in-Some.is at c.in_ok-set.ensures))
