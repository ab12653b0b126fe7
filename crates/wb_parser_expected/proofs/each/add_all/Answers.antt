use Rattle.wb_parser_expected.proofs.EachLemmas.{none_below}
use Rattle.wb_parser_expected.proofs.each.add_all.Goals as goal

pub terminals-init : goal.terminals-init
terminals-init c = none_below c.args.language.now c.args.states.now c.args.found.now.items c.requires.found
