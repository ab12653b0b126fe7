-- A tree that is too long makes the lines too long.
use Rattle.std.proofs.Common.{subst}
use Rattle.wb_compose_texts.specs.Answers.{IsAnswerIn}
use Rattle.wb_compose_texts.proofs.LineLemmas.{long_more}
use Rattle.wb_compose_texts.proofs.line.push_answer.Goals as goal

pub returns-in-TooLong : goal.returns-in-TooLong
returns-in-TooLong c = λ names signatures l text before is gathered.
    long_more names signatures l text before c.push_long.new.lines (subst (IsAnswerIn names signatures l text) c.in-TooLong.is is)
    (λ line long. c.push_long.ensures before line gathered long)
