use Rattle.std.proofs.Common.{refl}
use Rattle.wb_terms.specs.declared.print.Begun.{Begun}
use Rattle.wb_terms.proofs.PendingLemmas.{begins}
use Rattle.wb_terms.proofs.print.begin_tree.Goals as goal

pub returns-clause-ok : goal.returns-clause-ok
returns-clause-ok c =
    let o : Begun = record { below = c.len-below.result; closes = c.in_ok-last.last.closes } in
    begins c.args.signatures.now c.args.store.now c.args.out.now.items c.print_names.new.out.items c.args.next c.in_ok-last.last
    c.args.values.now c.push_children.new.values o c.in_ok-last.ensures.ok c.len-below.ensures refl c.in_ok-push_children.ensures.ok
    c.requires.values
