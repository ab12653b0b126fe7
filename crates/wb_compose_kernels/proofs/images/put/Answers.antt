use Rattle.std.proofs.Common.{arith}
use Rattle.wb_compose_kernels.proofs.MemberLemmas.{members_one, members_past}
use Rattle.wb_compose_kernels.proofs.images.put.Goals as goal

pub returns-then-terminal-count : goal.returns-then-terminal-count
returns-then-terminal-count c = members_past c.args.made.now c.args.terminal (omega arith)

pub returns : goal.returns
returns c = members_one c.args.made.now c.insert.new.self c.args.terminal (omega arith) c.insert.ensures.after
