use Rattle.wb_parser_expected.proofs.EachLemmas.{are_expected}
use Rattle.wb_parser_expected.proofs.expected.halted.Goals as goal

pub returns : goal.returns
returns c text stopped =
    are_expected c.args.language.now c.args.states.now c.requires.tables text c.args.place c.args.kind c.in_ok-terminals.terminals.items stopped
    c.in_ok-terminals.ensures
