use Rattle.wb_digraph.proofs.ReadLemmas.{shifts_next}
use Rattle.wb_digraph.proofs.reads.add_shifts.Goals as goal

pub returns-clause-shifts : goal.returns-clause-shifts
returns-clause-shifts c =
    shifts_next c.args.context.now.kernels.now c.args.state c.in_ok-number.number c.args.pool.now c.number_for.new.self c.args.shifts.now.items c.push.new.list.items
    c.in_ok-set.set c.in_ok-number.ensures.extends c.in_ok-number.ensures.below c.in_ok-number.ensures.is c.in_ok-set.ensures.members
    c.in_ok-push.ensures.ok c.requires.before
