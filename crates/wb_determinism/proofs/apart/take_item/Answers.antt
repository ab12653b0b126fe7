use Rattle.wb_determinism.proofs.ApartLemmas.{takes_complete, takes_nothing}
use Rattle.wb_determinism.proofs.apart.take_item.Goals as goal

pub returns-in-Some : goal.returns-in-Some
returns-in-Some c apart =
    takes_nothing c.args.grammar.now c.args.looks.now c.args.taken.now c.in-Some.field-0 c.in-Some.ensures.symbol.0
    c.in-Some.ensures.symbol.1

pub returns-in-None : goal.returns-in-None
returns-in-None c apart =
    takes_complete c.args.grammar.now c.args.looks.now c.args.taken.now c.take_set.new.taken (c.take_set.ensures apart)
