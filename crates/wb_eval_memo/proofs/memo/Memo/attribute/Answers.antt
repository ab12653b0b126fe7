use Rattle.std.proofs.Common.{rules, ◌≤◌, sym, length, arith}
use Rattle.wb_eval_memo.proofs.MemoLemmas.{nothing_past}
use Rattle.wb_eval_memo.proofs.memo.Memo.attribute.Goals as goal

pub returns-else-site-len : goal.returns-else-site-len
returns-else-site-len c =
    let far : length c.args.self.now.trees.items ≤ c.args.site = search rules in
    let count = c.requires.trees in
    sym (nothing_past c.args.self.now c.args.site c.args.attribute c.requires (omega (arith, far, count)))
