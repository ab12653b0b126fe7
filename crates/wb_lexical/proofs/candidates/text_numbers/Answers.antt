use Rattle.std.proofs.Common.{refl, length}
use Rattle.std.proofs.lemmas.Result.{IfOk-weaker}
use Rattle.wb_lexical.specs.Inner.Candidates.{AreNumbered, AreTextNumbers}
use Rattle.wb_lexical.proofs.TextLemmas.{numbers_apart}
use Rattle.wb_lexical.proofs.candidates.text_numbers.Goals as goal

pub returns : goal.returns
returns c =
    let terminals = c.args.terminals.now in
    let names = c.numbers_by-texts.new.names in
    IfOk-weaker c.numbers_by-texts.result (λ texts. AreNumbered terminals (length terminals) names texts.items)
    (λ texts. AreTextNumbers terminals texts.items)
    (λ texts are. numbers_apart terminals (length terminals) names texts.items refl c.len-different.ensures.different are)
    c.numbers_by-texts.ensures
