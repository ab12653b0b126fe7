use Rattle.std.proofs.Common.{List, Contains, subst}
use Rattle.wb_lemmas.proofs.Members.{contains_at}
use Rattle.wb_flow.proofs.AddingLemmas.{read_item}
use Rattle.wb_syntax_resolved.specs.declared.attributes.Occurrence.{Occurrence}
use Rattle.wb_explain_flows_lists.proofs.held.add_all.Goals as goal

pub occurrences-init : goal.occurrences-init
occurrences-init c = λ before. before

pub add_one-requires-clause-listed : goal.add_one-requires-clause-listed
add_one-requires-clause-listed c =
    let items = c.as_slice-occurrence-items.result.now in
    let o = c.occurrence-item.result in
    subst (λ (z : List Occurrence). Contains z o) c.as_slice-occurrence-items.ensures
    (contains_at items o c.occurrences.occurrence-index
    (read_item items c.occurrences.occurrence-index o c.occurrences-test.true c.occurrence-item.is))

pub occurrences-preserved : goal.occurrences-preserved
occurrences-preserved c = λ before. c.in_ok-add_one.ensures (c.occurrences.invariant before)
