use Rattle.std.proofs.Common.{◌<◌, ◌+◌, ◌*◌, ◌/◌, arith}
use Rattle.wb_recheck.proofs.TextLemmas.{more_bytes}
use Rattle.wb_recheck.proofs.text.text_within.Goals as goal

pub returns-in-Ok-None : goal.returns-in-Ok-None
returns-in-Ok-None c =
    let room : c.args.limit < (c.args.limit / 15 + 1) * 15 = omega arith in
    more_bytes c.args.grammar.now c.args.head c.args.limit (c.args.limit / 15) room
    (rw c.in-Ok-None.field-0-is at c.in-Ok-None.ensures.written)
