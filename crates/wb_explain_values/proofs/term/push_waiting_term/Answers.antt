use Rattle.std.proofs.Common.{inr, sym, subst}
use Rattle.std.proofs.lemmas.Result.{on_ok_weaker}
use Rattle.wb_explain_values.specs.Said.{SaysOfTerm}
use Rattle.wb_flow_theory.specs.Modular.{EachProduction}
use Rattle.wb_flow_theory.specs.WellDefined.{IsWellDefinedProduction}
use Rattle.wb_operations.specs.Operations.{Operations}
use Rattle.wb_syntax_resolved.specs.declared.resolved.ResolvedParts.{ResolvedParts}
use Rattle.wb_explain_values.proofs.term.push_waiting_term.Goals as goal

pub push_read-answer-requires-clause-productions : goal.push_read-answer-requires-clause-productions
push_read-answer-requires-clause-productions g c =
    subst (λ (r : ResolvedParts). EachProduction r.attributes (IsWellDefinedProduction r.attributes)) (sym c.parts.ensures.parts)
    c.in-Ok.ensures.host.well_defined.attributes.productions

pub returns-in-Ok : goal.returns-in-Ok
returns-in-Ok g c =
    let operations : Operations = record { signatures = c.args.operations.now.signatures; meaning = g.M.Meaning.meaning } in
    let asked = c.args.asked.now in
    on_ok_weaker c.push_read-answer.result
    (λ said. inr (
      _,
      c.in-Ok.resolved,
      c.in-Ok.ensures.host,
      subst (λ (r : ResolvedParts). SaysOfTerm asked.files.now r.attributes operations asked.text.now asked.name.now asked.steps
          c.args.out.now.items c.push_read-answer.new.out.items) c.parts.ensures.parts said,
    )) c.push_read-answer.ensures
