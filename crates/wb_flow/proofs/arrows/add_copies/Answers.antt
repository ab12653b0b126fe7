use Rattle.std.proofs.Common.{◌∙◌, not, ap}
use Rattle.wb_flow.proofs.arrows.add_copies.Goals as goal

pub add_undefined_of-answer-requires-clause-forwards : goal.add_undefined_of-answer-requires-clause-forwards
add_undefined_of-answer-requires-clause-forwards c = c.is_none.ensures ∙ ap not c.if-is_none.false
