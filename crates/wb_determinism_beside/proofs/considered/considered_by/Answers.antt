use Rattle.wb_determinism_contexts.specs.Sets.{lent}
use Rattle.wb_determinism_beside.proofs.ClearLemmas.{clear_of}
use Rattle.wb_determinism_beside.proofs.considered.considered_by.Goals as goal

pub returns : goal.returns
returns c = λ prefix is.
    clear_of c.args.grammar.now prefix c.args.row.now is c.args.shifts.now c.requires.each (lent c.args.lexicon.now)
    c.in_ok-considered_set.field-0 (c.has_no_conflict.ensures c.if-not-has_no_conflict.false) c.in_ok-considered_set.ensures
