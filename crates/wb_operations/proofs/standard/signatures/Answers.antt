use Rattle.std.proofs.Common.{◌<◌, arith, ◌∙◌}
use Rattle.wb_operations.proofs.StandardLemmas.{standard_new, standard_taken, standard_made, standard_step, standard_all}
use Rattle.wb_operations.proofs.standard.signatures.Goals as goal

pub add-requires-clause-new : goal.add-requires-clause-new
add-requires-clause-new c = standard_new c.loop-number.made c.loop-number.number c.name_of.result.now
    (omega arith) c.loop-number.invariant c.name_of.ensures

pub add-requires-clause-takes : goal.add-requires-clause-takes
add-requires-clause-takes c = standard_taken c.loop-number.number c.takes_of.result.now (omega arith) c.takes_of.ensures

pub add-requires-clause-gives : goal.add-requires-clause-gives
add-requires-clause-gives c = standard_made c.loop-number.number c.gives_of.result (omega arith) c.gives_of.ensures

pub returns : goal.returns
returns c = standard_all c.loop-number.made c.loop-number.number (omega arith) c.loop-number.invariant

pub loop-number-preserved : goal.loop-number-preserved
loop-number-preserved c =
    standard_step c.loop-number.made c.add.new.self c.loop-number.number
    (record { name = c.name_of.result.now; takes = c.takes_of.result.now; gives = c.gives_of.result })
    c.loop-number.invariant (omega arith) c.name_of.ensures c.takes_of.ensures c.gives_of.ensures c.in_ok-add.ensures.ok
