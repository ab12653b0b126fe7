use Rattle.std.proofs.Common.{sym, subst}
use Rattle.wb_items.specs.Table.{SameItems}
use Rattle.wb_items.proofs.TableLemmas.{prefix_at, leads_known, IsAdded, is_added}
use Rattle.wb_items.proofs.table.find_or_add.Goals as goal

pub returns-in-Some-clause-leads : goal.returns-in-Some-clause-leads
returns-in-Some-clause-leads c =
    let (kernel, there, same) = c.in-Some.ensures.found in
    let (prefix, at) = prefix_at c.requires.kernels c.args.state c.requires.state in
    leads_known c.args.grammar.now c.args.found.now.prefixes c.args.found.now.kernels c.args.state c.args.symbol prefix c.args.kernel
    c.in-Some.next kernel c.requires.kernels at
    (c.requires.kernel prefix at) there (subst (SameItems kernel) c.as_slice.ensures same)

is_new : (c : goal.In_ok-add) → IsAdded c.args.grammar.now c.args.found.now c.add.new.self c.args.state c.args.symbol c.len-next.result
is_new c =
    is_added c.args.grammar.now c.args.found.now c.add.new.self c.args.state c.args.symbol c.len-next.result c.args.kernel
    c.requires.kernels c.requires.state c.requires.kernel
    (λ t other at same. c.in_default.ensures.none t other at
    (subst (SameItems other) (sym c.as_slice.ensures) same)) c.len-next.ensures.prefixes c.in_ok-add.ensures

pub returns-clause-kernels : goal.returns-clause-kernels
returns-clause-kernels c = (is_new c).kernels

pub returns-clause-grows : goal.returns-clause-grows
returns-clause-grows c = (is_new c).grows

pub returns-clause-leads : goal.returns-clause-leads
returns-clause-leads c = (is_new c).leads

pub add-requires-clause-new : goal.add-requires-clause-new
add-requires-clause-new c = λ s other at same. c.in_default.ensures.none s other at (subst (SameItems other) (sym c.as_slice.ensures) same)
