use Rattle.std.proofs.Common.{◌≡◌, ◌<◌, refl, sym, subst, arith}
use Rattle.wb_text_expected.proofs.walk.advance.Goals as goal

pub returns-then-branch-clause-ok : goal.returns-then-branch-clause-ok
returns-then-branch-clause-ok g c = λ read s.
    let t = g.T.Table in let x = c.in-Found.token in record {
      x = x;
      stands = subst (λ n. t.IsNext c.args.table.now c.args.text.now c.args.from n) c.in-Found.is c.in_ok-token.ensures.ok;
      before = grind (arith, c.if-token-at.false);
      ends = refl;
      row_is = c.in_ok-take-in-Found.ensures.ok read x c.kind-kind.ensures s c.if-branch.true;
    }
