use Rattle.std.proofs.Common.{arith}
use Rattle.wb_terms.proofs.PlainLemmas.{plain_all, plain_more}
use Rattle.wb_terms.proofs.print.is_plain.Goals as goal

pub bytes-preserved : goal.bytes-preserved
bytes-preserved c =
    plain_more c.args.text.now c.bytes.b-index (c.is_plain_byte.ensures c.if-not-is_plain_byte.false)
    c.bytes.invariant

pub returns : goal.returns
returns c e = plain_all c.args.text.now c.bytes.b-index (omega arith) c.bytes.invariant
