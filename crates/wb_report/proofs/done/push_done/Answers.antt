use Rattle.std.proofs.Common.{◌++◌, subst, sym, ◌≡◌}
use Rattle.std.specs.Prelude.{OnOk}
use lib.Chars.{codes}
use Rattle.wb_report.specs.Done.{done_lines, extension_lines}
use Rattle.wb_report.specs.declared.done.Done.{Done}
use Rattle.wb_report.proofs.LineLemmas.{pushed_both}
use Rattle.wb_report.proofs.done.push_done.Goals as goal

pub returns-in_ok-push_line-in-Certified : goal.returns-in_ok-push_line-in-Certified
returns-in_ok-push_line-in-Certified c =
    subst (λ (done : Done). OnOk c.push_extensions.result (c.push_extensions.new.out.items ≡ c.args.out.now.items ++ done_lines done))
    (sym c.in-Certified.is)
    (pushed_both c.push_extensions.result c.args.out.now.items c.push_line.new.out.items c.push_extensions.new.out.items
    (codes "certified host " ++ c.in-Certified.host ++ codes "\n") (extension_lines c.in-Certified.extensions)
    c.in_ok-push_line-in-Certified.ensures (rw c.as_slice-in-Certified.ensures at c.push_extensions.ensures))
