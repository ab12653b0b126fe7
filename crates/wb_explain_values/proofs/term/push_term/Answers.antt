use Rattle.std.proofs.Common.{inr, subst}
use Rattle.std.proofs.lemmas.Result.{on_ok_weaker}
use Rattle.wb_syntax_resolved.specs.declared.attribution.AttributionParts.{AttributionParts}
use Rattle.wb_terms.specs.TermAnswer.{IsTermOf}
use Rattle.wb_values.specs.ValuesIn.{tree_in}
use Rattle.wb_explain_values.proofs.term.push_term.Goals as goal

pub returns-in-Ok : goal.returns-in-Ok
returns-in-Ok g c =
    let top = tree_in c.read_term.new.store c.in-Ok.root.0 in
    on_ok_weaker c.push_tree.result
    (λ said. inr (
      top,
      subst (λ (b : AttributionParts). IsTermOf b.signatures c.args.asked.now.text.now top) c.parts.ensures.parts
          c.in-Ok.ensures.ok,
      said,
    )) c.push_tree.ensures
