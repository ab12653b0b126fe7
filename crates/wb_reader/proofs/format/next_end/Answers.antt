use Rattle.wb_reader.proofs.FormatLemmas.{end_found, end_ended, end_no_token}
use Rattle.wb_reader.proofs.format.next_end.Goals as goal

pub returns-in-Found-clause-next : goal.returns-in-Found-clause-next
returns-in-Found-clause-next c =
    end_found c.args.bytes.now c.args.wanted c.args.from c.in_ok-lexeme.field-0 c.in_ok-lexeme.ensures.ok c.in-Found.lexeme c.in-Found.is
    c.end_where.result c.end_where.ensures

pub returns-in-End-clause-next : goal.returns-in-End-clause-next
returns-in-End-clause-next c =
    end_ended c.args.bytes.now c.args.wanted c.args.from c.in_ok-lexeme.field-0 c.in_ok-lexeme.ensures.ok c.in-End.at c.in-End.is

pub returns-in-NoToken-clause-next : goal.returns-in-NoToken-clause-next
returns-in-NoToken-clause-next c =
    end_no_token c.args.bytes.now c.args.wanted c.args.from c.in_ok-lexeme.field-0 c.in_ok-lexeme.ensures.ok c.in-NoToken.at c.in-NoToken.is
