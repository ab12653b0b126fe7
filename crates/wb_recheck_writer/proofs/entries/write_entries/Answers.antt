use Rattle.std.proofs.Common.{arith}
use Rattle.wb_recheck_writer.proofs.EndLemmas.{too_many, written_whole}
use Rattle.wb_recheck_writer.proofs.entries.write_entries.Goals as goal

pub returns-then-len-most : goal.returns-then-len-most
returns-then-len-most c =
    too_many c.args.context.now c.requires.context c.entries.entries c.entries.place c.entries.invariant c.args.most
    (let more = c.if-len-most.true in let long = c.len-in-entries.ensures in omega (arith, more, long))

pub returns : goal.returns
returns c =
    written_whole c.args.context.now c.requires.context c.entries.entries c.entries.place c.entries.invariant
    (let past = c.entries-test.false in let long = c.len.ensures in omega (arith, past, long))
