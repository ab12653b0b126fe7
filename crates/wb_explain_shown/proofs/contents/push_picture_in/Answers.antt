-- What is shown in a language is shown in one of these files.
use Rattle.wb_explain_language.specs.Languages.{IsLanguageIn}
use Rattle.wb_explain_shown.proofs.ShownLemmas.{picture_in}
use Rattle.wb_explain_shown.proofs.contents.push_picture_in.Goals as goal

pub returns-in-Some : goal.returns-in-Some
returns-in-Some g c =
    let found : IsLanguageIn c.args.operations.now.signatures c.args.files.now c.in-Some.language = rw c.in-Some.is at c.in_ok-language.ensures in
    picture_in c.push_picture-answer.result c.args.operations.now.signatures c.args.files.now c.args.text.now c.args.out.now.items
    c.push_picture-answer.new.out.items c.in-Some.language c.language.result.now c.signatures.result.now c.terminals.result.now found
    c.language.ensures.language c.signatures.ensures c.terminals.ensures c.push_picture-answer.ensures
