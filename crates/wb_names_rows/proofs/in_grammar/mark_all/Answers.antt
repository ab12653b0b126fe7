use Rattle.wb_names_rows.proofs.MarkLemmas.{marks_more}
use Rattle.wb_names_rows.proofs.in_grammar.mark_all.Goals as goal

pub numbers-preserved : goal.numbers-preserved
numbers-preserved c =
    marks_more c.args.numbers.now c.numbers.number-index c.args.flags.now.items c.numbers.flags.items c.mark.new.flags.items c.numbers-test.true
    c.numbers.invariant c.mark.ensures
