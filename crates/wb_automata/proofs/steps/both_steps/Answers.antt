use Rattle.std.proofs.Common.{◌<◌, ◌/◌}
use Rattle.std.proofs.Math.Nat.{div-lt_iff_lt-mul}
use Rattle.wb_automata.proofs.AnswerLemmas.{positive, steps_room}
use Rattle.wb_automata.proofs.steps.both_steps.Goals as goal

pub right_steps-requires : goal.right_steps-requires
right_steps-requires c =
    let lt : c.args.pair / c.args.count < c.args.count = (div-lt_iff_lt-mul (positive c.args.pair c.args.count c.requires.pair)).1 c.requires.pair in
    steps_room c.args.count (c.args.pair / c.args.count) c.args.rights lt c.requires.count c.requires.rights
