-- A heading comes first, then the lines, and then that there are more.
use Rattle.wb_explain_language.proofs.AskedLemmas.{list_asked, on_ok}
use Rattle.wb_explain_language.proofs.attributes.push_some.Goals as goal

pub returns : goal.returns
returns c =
    on_ok c.push_more.result _ _
    (list_asked c.args.certified.now c.args.out.now.items c.extend_from_slice.new.self.items c.push_each.new.out.items
    c.push_more.new.out.items c.in_ok-extend_from_slice.ensures.items c.in_ok-push_each.ensures) c.push_more.ensures
