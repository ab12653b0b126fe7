-- Whether the prefix is the whole file, by its length.
use Rattle.std.proofs.Common.{arith, length, ◌≤◌}
use Rattle.std.proofs.lemmas.Grind.{common_steps}
use Rattle.wb_program_files.proofs.Pieces.{whole, too_long}
use Rattle.wb_program_files.proofs.files.read_file.Goals as goal

pub returns-then-len-limit-clause-ok : goal.returns-then-len-limit-clause-ok
returns-then-len-limit-clause-ok g c =
    let short : length c.in_ok-bytes.bytes.items ≤ c.args.limit = grind (arith, common_steps) in
    (whole (g.S.Shelf.files c.args.shelf.now) c.args.name.now c.in_ok-bytes.bytes.items c.args.limit c.in_ok-bytes.ensures.ok short, short)

pub returns-else-len-limit-clause-ok : goal.returns-else-len-limit-clause-ok
returns-else-len-limit-clause-ok g c =
    too_long (g.S.Shelf.files c.args.shelf.now) c.args.name.now c.in_ok-bytes.bytes.items c.args.limit c.in_ok-bytes.ensures.ok
    (grind (arith, common_steps))
