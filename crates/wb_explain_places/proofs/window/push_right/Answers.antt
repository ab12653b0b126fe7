use Rattle.std.proofs.Common.{rules}
use Rattle.wb_explain_places.proofs.WindowLemmas.{pushed_long}
use Rattle.wb_explain_places.proofs.window.push_right.Goals as goal

pub returns : goal.returns
returns c =
    pushed_long c.extend_from_slice.result c.args.after.now c.args.out.now.items c.push_shown-2.new.out.items
    c.extend_from_slice.new.self.items c.broken.result c.if-after-le-MOST.false c.broken.ensures.value c.in_ok-push_shown.ensures
    (search rules)
