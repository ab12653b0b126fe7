use Rattle.std.proofs.Common.{arith}
use Rattle.wb_automata_positions.proofs.ClassLemmas.{class_step, class_fits}
use Rattle.wb_automata_positions.proofs.classes.grouped.Goals as goal

pub loop-b-preserved : goal.loop-b-preserved
loop-b-preserved c = rw (c.in_ok-push.ensures.ok)
    (class_step c.args.keys.now c.loop-b.of.items c.loop-b.firsts.items c.class_of.new.firsts.items c.loop-b.b
    c.in_ok-class.class c.loop-b.invariant c.in_ok-class.ensures)

pub overflow_cast-number : goal.overflow_cast-number
overflow_cast-number c = omega (
  arith,
  class_fits c.args.keys.now c.loop-b.of.items c.loop-b.firsts.items c.class_of.new.firsts.items c.loop-b.b
      c.in_ok-class.class (omega arith) c.loop-b.invariant c.in_ok-class.ensures,
)
