use Rattle.std.proofs.Common.{arith}
use Rattle.wb_terms.proofs.PrintedLemmas.{name_there, name_past}
use Rattle.wb_terms.proofs.name.printed_name.Goals as goal

pub returns-then-production-len : goal.returns-then-production-len
returns-then-production-len c =
    name_there c.args.signatures.now c.args.production c.name.result.now
    (omega (arith, c.if-production-len.true, c.len.ensures)) c.name.ensures

pub returns-else-production-len : goal.returns-else-production-len
returns-else-production-len c = name_past c.args.signatures.now c.args.production (omega (arith, c.if-production-len.false, c.len.ensures))
