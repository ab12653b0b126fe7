use Rattle.std.proofs.Common.{refl, sym, ◌∙◌, arith}
use Rattle.wb_text_tokens.specs.Skipping.{IsLayoutPiece}
use Rattle.wb_text_tokens.proofs.skipping.layout_piece.Goals as goal

pub returns-then-is_blank-clause-piece : goal.returns-then-is_blank-clause-piece
returns-then-is_blank-clause-piece c = IsLayoutPiece.blank (omega arith) (sym c.is_blank.ensures ∙ c.if-is_blank.true) refl

pub returns-then-begins_comment-clause-piece : goal.returns-then-begins_comment-clause-piece
returns-then-begins_comment-clause-piece c =
    let two = c.begins_comment.ensures.0 c.if-begins_comment.true in
    IsLayoutPiece.comment (sym c.has_comments.ensures ∙ c.if-has_comments.true) (record {
      first = two.0;
      second = two.1;
      ordered = c.line_end.ensures.ordered;
      within = c.line_end.ensures.within;
      one_line = c.line_end.ensures.one_line;
      ended = c.line_end.ensures.ended;
    })
