use Rattle.std.proofs.Common.{arith}
use Rattle.std.proofs.lemmas.List.{take_rest}
use Rattle.wb_text_predictive.specs.declared.table.Next.TheVariants as n
use Rattle.wb_text_tokens.proofs.OnlyLemmas.{next_only, stands_at, longest_at}
use Rattle.wb_text_tokens.proofs.next.next_token.Goals as goal

pub returns-then-at-text-clause-only : goal.returns-then-at-text-clause-only
returns-then-at-text-clause-only c = λ other h.
    next_only c.args.dialect c.args.text.now c.args.from other (n.End c.skip_layout-at.result) h
    (record { skipped = c.skip_layout-at.ensures.skipped; last = c.if-at-text.true })

pub returns-in-Some-clause-only : goal.returns-in-Some-clause-only
returns-in-Some-clause-only c = λ other h.
    let longest = rw take_rest at (rw c.in-Some.is at c.in_ok-token.ensures) in
    next_only c.args.dialect c.args.text.now c.args.from other _ h
    (record {
      skipped = c.skip_layout-at.ensures.skipped;
      stands =
          stands_at c.args.dialect c.args.text.now c.skip_layout-at.result c.in-Some.length c.in-Some.token c.skip_layout-at.ensures.within longest;
    })

pub returns-in-None-clause-ok : goal.returns-in-None-clause-ok
returns-in-None-clause-ok c =
    let none = rw take_rest at (rw c.in-None.is at c.in_ok-token.ensures) in
    record {
      skipped = c.skip_layout-at.ensures.skipped;
      within = omega (arith, c.skip_layout-at.ensures.within);
      none_stands = λ token behind s. none token _ (longest_at c.args.dialect c.args.text.now c.skip_layout-at.result behind token s);
    }

pub returns-in-None-clause-only : goal.returns-in-None-clause-only
returns-in-None-clause-only c = λ other h.
    let none = rw take_rest at (rw c.in-None.is at c.in_ok-token.ensures) in
    next_only c.args.dialect c.args.text.now c.args.from other (n.NoToken c.skip_layout-at.result) h
    (record {
      skipped = c.skip_layout-at.ensures.skipped;
      within = omega (arith, c.skip_layout-at.ensures.within);
      none_stands = λ token behind s. none token _ (longest_at c.args.dialect c.args.text.now c.skip_layout-at.result behind token s);
    })
