use Rattle.std.proofs.Common.{◌≡◌, ◌<◌, length, arith, subst}
use Rattle.wb_grammar.proofs.OccurrenceLemmas.{LeadsFrom, leads_more, leads_stop, leads_end}
use Rattle.wb_grammar.proofs.occurrence.count_empty.Goals as goal

pub returns-then-not-is_nullable-clause-leading : goal.returns-then-not-is_nullable-clause-leading
returns-then-not-is_nullable-clause-leading c =
    let lt : c.symbols.place < length c.args.symbols.now = omega arith in
    leads_stop c.args.nullable.now c.args.symbols.now c.symbols.place _ lt
    (λ h. let held = c.is_nullable.ensures.1 h in cc (held, c.if-not-is_nullable.true)) c.symbols.invariant

pub symbols-preserved : goal.symbols-preserved
symbols-preserved c =
    let lt : c.symbols.place < length c.args.symbols.now = omega arith in
    leads_more c.args.nullable.now c.args.symbols.now c.symbols.place _ lt
    (c.is_nullable.ensures.0 c.if-not-is_nullable.false) c.symbols.invariant

pub returns-clause-leading : goal.returns-clause-leading
returns-clause-leading c =
    let e : c.symbols.place ≡ length c.args.symbols.now = omega arith in
    leads_end c.args.nullable.now c.args.symbols.now (length c.args.symbols.now) (omega arith)
    (subst (LeadsFrom c.args.nullable.now c.args.symbols.now) e c.symbols.invariant)
