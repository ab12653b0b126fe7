use Rattle.std.proofs.Common.{◌∙◌, sym, subst}
use Rattle.wb_terms.specs.Inner.TermReading.{IsTermReading}
use Rattle.wb_terms.proofs.ReadLemmas.{tree_answer, fault_answer}
use Rattle.wb_terms.proofs.read.add_term.Goals as goal

pub tree_of-requires : goal.tree_of-requires
tree_of-requires c =
    let r = subst (λ o. IsTermReading c.args.bytes.now o) c.in-Whole.is c.in_ok-at.ensures.ok in
    (r.0, r.2 ∙ sym c.as_slice.ensures)

pub returns-in-Whole-clause-ok : goal.returns-in-Whole-clause-ok
returns-in-Whole-clause-ok c =
    let r = subst (λ o. IsTermReading c.args.bytes.now o) c.in-Whole.is c.in_ok-at.ensures.ok in
    tree_answer c.args.signatures.now c.args.bytes.now r.0 r.1 _ c.tree_of.new.store c.tree_of.result
    (r.2 ∙ sym c.as_slice.ensures) c.tree_of.ensures.ok

pub returns-in-Whole-clause-refused : goal.returns-in-Whole-clause-refused
returns-in-Whole-clause-refused c =
    let r = subst (λ o. IsTermReading c.args.bytes.now o) c.in-Whole.is c.in_ok-at.ensures.ok in
    fault_answer c.args.signatures.now c.args.bytes.now r.0 r.1 _ c.tree_of.result (r.2 ∙ sym c.as_slice.ensures) c.tree_of.ensures.refused
