-- One byte more.
use Rattle.std.proofs.Common.{◌∙◌, ◌+◌, sym, arith, true, false}
use Rattle.wb_explain_drawing.proofs.CursorLemmas.{byte_reached, feed_reached}
use Rattle.wb_explain_drawing.proofs.cursor.after.Goals as goal

pub returns-then-ends-clause-reached : goal.returns-then-ends-clause-reached
returns-then-ends-clause-reached c =
    feed_reached c.args.text.now c.args.cursor c.args.byte c.requires.reached c.requires.within c.requires.is
    (sym c.if-ends.true ∙ c.is_line_feed-ends.ensures)

pub returns-then-begins-clause-reached : goal.returns-then-begins-clause-reached
returns-then-begins-clause-reached c =
    byte_reached c.args.text.now c.args.cursor c.args.byte (c.args.cursor.column + 1) true c.requires.reached c.requires.within c.requires.is
    (sym c.if-ends.false ∙ c.is_line_feed-ends.ensures) (sym c.if-begins.true ∙ c.begins_character-begins.ensures) (omega arith)

pub returns-clause-reached : goal.returns-clause-reached
returns-clause-reached c =
    byte_reached c.args.text.now c.args.cursor c.args.byte c.args.cursor.column false c.requires.reached c.requires.within c.requires.is
    (sym c.if-ends.false ∙ c.is_line_feed-ends.ensures) (sym c.if-begins.false ∙ c.begins_character-begins.ensures) (omega arith)
