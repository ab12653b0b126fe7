-- What is listed of a host with extensions is said of their files.
use Rattle.wb_explain_language.proofs.AskedLemmas.{asked_in}
use Rattle.wb_explain_language.proofs.attributes.push_attributes_in.Goals as goal

pub returns-in-Some : goal.returns-in-Some
returns-in-Some g c =
    asked_in c.push_of-answer.result c.args.operations.now.signatures c.args.files.now c.args.out.now.items c.push_of-answer.new.out.items
    c.in-Some.certified c.in-Some.ensures c.push_of-answer.ensures
