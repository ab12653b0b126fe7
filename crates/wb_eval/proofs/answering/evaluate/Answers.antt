use Rattle.std.proofs.Common.{All, List, sym, subst, arith}
use Rattle.std.proofs.lemmas.Result.{IfOk-weaker}
use Rattle.wb_base.specs.Different.{Differ}
use Rattle.wb_operations.specs.Operations.{Operations, IsPlainSignature, names_of}
use Rattle.wb_syntax_resolved.specs.declared.attribution.AttributionParts.{AttributionParts}
use Rattle.wb_syntax_resolved.specs.declared.production.Production.{Production}
use Rattle.wb_eval_rules.specs.Codes.{AreCoded}
use Rattle.wb_eval_rules.specs.Indexes.{AreIndexes}
use Rattle.wb_values.specs.ValuesIn.{tree_in}
use Rattle.wb_eval_theory.specs.Evaluable.{IsEvaluable, IsAsked}
use Rattle.wb_eval_theory.specs.Needed.{NeedsMoreThan}
use Rattle.wb_eval.proofs.AnsweringLemmas.{answered_at, needs_first}
use Rattle.wb_eval.proofs.SteadyLemmas.{same_store}
use Rattle.wb_eval.specs.Inner.State.{start}
use Rattle.wb_eval.proofs.answering.evaluate.Goals as goal

pub returns-then-steps-eq0-clause-more : goal.returns-then-steps-eq0-clause-more
returns-then-steps-eq0-clause-more g c =
    let a = c.args.attributes.now in
    let operations : Operations = record { signatures = c.args.operations.now.signatures; meaning = g.M.Meaning.meaning } in
    let t = tree_in c.args.store.now c.args.root.0 in
    subst (NeedsMoreThan a operations t (start a operations t c.args.attribute)) (sym c.if-steps-eq0.true)
    (needs_first a operations t c.args.attribute)

pub evaluate_root-answer-requires-clause-evaluable : goal.evaluate_root-answer-requires-clause-evaluable
evaluate_root-answer-requires-clause-evaluable g c =
    subst (λ (a : AttributionParts). IsEvaluable a
    (record { signatures = c.args.operations.now.signatures; meaning = g.M.Meaning.meaning })) (sym c.parts-lists.ensures.parts) (record {
      attribution = c.parts-lists.ensures.whole;
      productions = c.requires.productions;
      kinds = c.requires.kinds;
      with_operations = record {
        names = subst (λ l. Differ (names_of l)) c.signatures.ensures c.len.ensures.different;
        plain = subst (λ l. All IsPlainSignature l) c.signatures.ensures c.len.ensures.plain;
        kinds = c.requires.kept.kinds;
      };
    })

pub evaluate_root-answer-requires-clause-there : goal.evaluate_root-answer-requires-clause-there
evaluate_root-answer-requires-clause-there g c = c.requires.there

pub evaluate_root-answer-requires-clause-asked : goal.evaluate_root-answer-requires-clause-asked
evaluate_root-answer-requires-clause-asked g c =
    subst (λ (a : AttributionParts). IsAsked a (tree_in c.args.store.now c.args.root.0) c.args.attribute) (sym c.parts-lists.ensures.parts)
    c.requires.asked

pub evaluate_root-answer-requires-clause-steps : goal.evaluate_root-answer-requires-clause-steps
evaluate_root-answer-requires-clause-steps g c = let some = c.if-steps-eq0.false in omega (arith, some)

pub evaluate_root-answer-requires-clause-kept : goal.evaluate_root-answer-requires-clause-kept
evaluate_root-answer-requires-clause-kept g c = c.requires.kept

pub returns-clause-value : goal.returns-clause-value
returns-clause-value g c =
    IfOk-weaker c.evaluate_root-answer.result _ _
    (λ e answered. (answered_at c.parts-lists.result.now c.args.attributes.now c.parts-lists.ensures.parts
    (record { signatures = c.args.operations.now.signatures; meaning = g.M.Meaning.meaning }) c.args.store.now
    c.evaluate_root-answer.new.store c.args.root c.args.attribute c.args.steps e c.evaluate_root-answer.ensures.store c.requires.there
    answered).0) c.evaluate_root-answer.ensures.answered

pub returns-clause-fault : goal.returns-clause-fault
returns-clause-fault g c =
    IfOk-weaker c.evaluate_root-answer.result _ _
    (λ e answered. (answered_at c.parts-lists.result.now c.args.attributes.now c.parts-lists.ensures.parts
    (record { signatures = c.args.operations.now.signatures; meaning = g.M.Meaning.meaning }) c.args.store.now
    c.evaluate_root-answer.new.store c.args.root c.args.attribute c.args.steps e c.evaluate_root-answer.ensures.store c.requires.there
    answered).1) c.evaluate_root-answer.ensures.answered

pub returns-clause-more : goal.returns-clause-more
returns-clause-more g c =
    IfOk-weaker c.evaluate_root-answer.result _ _
    (λ e answered. (answered_at c.parts-lists.result.now c.args.attributes.now c.parts-lists.ensures.parts
    (record { signatures = c.args.operations.now.signatures; meaning = g.M.Meaning.meaning }) c.args.store.now
    c.evaluate_root-answer.new.store c.args.root c.args.attribute c.args.steps e c.evaluate_root-answer.ensures.store c.requires.there
    answered).2) c.evaluate_root-answer.ensures.answered

pub returns-clause-store : goal.returns-clause-store
returns-clause-store g c = c.evaluate_root-answer.ensures.store

pub returns-then-steps-eq0-clause-store : goal.returns-then-steps-eq0-clause-store
returns-then-steps-eq0-clause-store g c = same_store c.args.store.now

pub returns-in_err-rules-clause-store : goal.returns-in_err-rules-clause-store
returns-in_err-rules-clause-store g c = same_store c.args.store.now

pub evaluate_root-answer-requires-clause-rules : goal.evaluate_root-answer-requires-clause-rules
evaluate_root-answer-requires-clause-rules g c =
    subst (λ (ps : List Production). AreIndexes ps c.in_ok-rules.rules.rows.items) c.as_slice.ensures c.in_ok-rules.ensures.indexes

pub evaluate_root-answer-requires-clause-coded : goal.evaluate_root-answer-requires-clause-coded
evaluate_root-answer-requires-clause-coded g c =
    subst (λ (ps : List Production). AreCoded c.args.operations.now.signatures ps c.in_ok-rules.rules.codes.items) c.as_slice.ensures
    c.in_ok-rules.ensures.coded
