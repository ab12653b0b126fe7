use Rattle.wb_text_tokens.proofs.next.longest_token.Goals as goal

pub returns-in-Number : goal.returns-in-Number
returns-in-Number c = c.integer.ensures c.args.dialect

pub returns-in-Mark : goal.returns-in-Mark
returns-in-Mark c = c.longest_mark.ensures c.args.dialect
