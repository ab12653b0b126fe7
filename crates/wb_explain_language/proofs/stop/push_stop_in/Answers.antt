-- What is said of a stop in a language is said of one in the language of these files.
use Rattle.wb_explain_language.specs.Languages.{IsLanguageIn}
use Rattle.wb_explain_language.proofs.AddedLemmas.{says_in}
use Rattle.wb_explain_language.proofs.stop.push_stop_in.Goals as goal

pub returns-in-Some : goal.returns-in-Some
returns-in-Some g c =
    let found : IsLanguageIn c.args.operations.now.signatures c.args.files.now c.in-Some.language = rw c.in-Some.is at c.in_ok-language.ensures in
    says_in c.push_stop-answer.result c.args.operations.now.signatures c.args.files.now c.args.text.now c.args.out.now.items
    c.push_stop-answer.new.out.items c.in-Some.language c.language.result.now c.terminals.result.now found c.language.ensures.language
    c.terminals.ensures c.push_stop-answer.ensures
