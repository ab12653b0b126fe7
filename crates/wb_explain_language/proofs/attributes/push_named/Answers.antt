-- A name by which an attribute is found is on the line.
use Rattle.wb_explain_language.proofs.AskedLemmas.{line_asked, on_ok}
use Rattle.wb_explain_language.proofs.attributes.push_named.Goals as goal

pub returns-in-Some : goal.returns-in-Some
returns-in-Some c =
    on_ok c.push_line.result _ _
    (line_asked c.args.certified.now c.args.out.now.items c.push_line.new.out.items c.args.name.now c.in-Some.field-0
    (rw c.in-Some.is at c.in_ok-attribute_of.ensures)) c.push_line.ensures
