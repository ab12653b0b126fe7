use Rattle.std.proofs.Common.{sym, subst}
use Rattle.wb_items.specs.Index.{IndexView}
use Rattle.wb_items.specs.Table.{SameItems, AreKernelsOf, Leads}
use Rattle.wb_items.specs.Inner.Growing.{Grows}
use Rattle.wb_items.proofs.TableLemmas.{prefix_at, leads_known}
use Rattle.wb_items.proofs.table.number_of.Goals as goal

pub returns-in-Some-clause-leads : goal.returns-in-Some-clause-leads
returns-in-Some-clause-leads c =
    let (kernel, there, same) = c.in-Some.ensures in
    let (prefix, at) = prefix_at c.requires.kernels c.args.state c.requires.state in
    leads_known c.args.grammar.now c.args.found.now.prefixes c.args.found.now.kernels c.args.state c.args.symbol prefix c.args.kernel
    c.in-Some.next kernel c.requires.kernels at
    (c.requires.kernel prefix at) there (subst (SameItems kernel) c.as_slice.ensures same)

pub returns-clause-kernels : goal.returns-clause-kernels
returns-clause-kernels c = subst (λ (f : IndexView). AreKernelsOf c.args.grammar.now f.prefixes f.kernels)
    (sym c.put.ensures) c.in_ok-next.ensures.kernels

pub returns-clause-grows : goal.returns-clause-grows
returns-clause-grows c = subst (Grows c.args.found.now) (sym c.put.ensures) c.in_ok-next.ensures.grows

pub returns-clause-leads : goal.returns-clause-leads
returns-clause-leads c = subst (λ (f : IndexView). Leads c.args.grammar.now f.prefixes c.args.state c.args.symbol c.in_ok-next.next)
    (sym c.put.ensures) c.in_ok-next.ensures.leads
