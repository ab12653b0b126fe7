use Rattle.std.proofs.Common.{arith, ◌++◌, ℕ, List}
use lib.Chars.{codes}
use Rattle.wb_report.proofs.LineLemmas.{pushed_more}
use Rattle.wb_report.proofs.done.push_extensions.Goals as goal

pub names-preserved : goal.names-preserved
names-preserved c =
    pushed_more (λ (name : List ℕ). codes "certified extension " ++ name ++ codes "\n") c.args.names.now c.names.name-index
    c.name-item.result c.args.out.now.items c.names.out.items c.push_line.new.out.items (omega (arith, c.names-test.true)) c.name-item.is
    c.names.invariant c.in_ok-push_line.ensures
