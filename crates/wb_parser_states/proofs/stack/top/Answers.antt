use Rattle.wb_parser_states.proofs.StateLemmas.{top_is}
use Rattle.wb_parser_states.proofs.stack.top.Goals as goal

pub returns : goal.returns
returns c = top_is c.args.states.now
