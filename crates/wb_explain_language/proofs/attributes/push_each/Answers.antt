-- One line more.
use Rattle.wb_explain_language.proofs.AskedLemmas.{none_asked, one_asked}
use Rattle.wb_explain_language.proofs.attributes.push_each.Goals as goal

pub numbers-init : goal.numbers-init
numbers-init c = none_asked c.args.certified.now c.args.out.now.items

pub numbers-preserved : goal.numbers-preserved
numbers-preserved c =
    one_asked c.args.certified.now c.args.out.now.items c.numbers.out.items c.push_one.new.out.items c.numbers.invariant
    c.in_ok-push_one.ensures
