use Rattle.std.proofs.Common.{All, List, sym, subst, arith}
use Rattle.std.proofs.lemmas.Result.{IfOk-weaker}
use Rattle.wb_base.specs.Different.{Differ}
use Rattle.wb_operations.specs.Operations.{IsPlainSignature, names_of}
use Rattle.wb_syntax_resolved.specs.declared.attribution.AttributionParts.{AttributionParts}
use Rattle.wb_syntax_resolved.specs.declared.production.Production.{Production}
use Rattle.wb_eval_rules.specs.Codes.{AreCoded}
use Rattle.wb_eval_rules.specs.Indexes.{AreIndexes}
use Rattle.wb_values.specs.ValuesIn.{tree_in}
use Rattle.wb_eval_theory.specs.Evaluable.{IsEvaluable, IsAsked}
use Rattle.wb_eval.proofs.HaltLemmas.{some_weaker, waits_at}
use Rattle.wb_eval.proofs.SteadyLemmas.{same_store}
use Rattle.wb_eval.proofs.halting.waiting_instances.Goals as goal

pub waiting_at-found-requires-clause-evaluable : goal.waiting_at-found-requires-clause-evaluable
waiting_at-found-requires-clause-evaluable g c =
    subst (λ (a : AttributionParts). IsEvaluable a
    (record { signatures = c.args.operations.now.signatures; meaning = g.M.Meaning.meaning })) (sym c.parts-lists.ensures.parts) (record {
      attribution = c.parts-lists.ensures.whole;
      productions = c.requires.productions;
      kinds = c.requires.kinds;
      with_operations = record {
        names = subst (λ l. Differ (names_of l)) c.signatures.ensures c.len.ensures.different;
        plain = subst (λ l. All IsPlainSignature l) c.signatures.ensures c.len.ensures.plain;
        kinds = c.requires.kept.kinds;
      };
    })

pub waiting_at-found-requires-clause-there : goal.waiting_at-found-requires-clause-there
waiting_at-found-requires-clause-there g c = c.requires.there

pub waiting_at-found-requires-clause-asked : goal.waiting_at-found-requires-clause-asked
waiting_at-found-requires-clause-asked g c =
    subst (λ (a : AttributionParts). IsAsked a (tree_in c.args.store.now c.args.root.0) c.args.attribute) (sym c.parts-lists.ensures.parts)
    c.requires.asked

pub waiting_at-found-requires-clause-steps : goal.waiting_at-found-requires-clause-steps
waiting_at-found-requires-clause-steps g c = let some = c.if-steps-eq0.false in omega (arith, some)

pub waiting_at-found-requires-clause-kept : goal.waiting_at-found-requires-clause-kept
waiting_at-found-requires-clause-kept g c = c.requires.kept

pub waiting_at-found-requires-clause-rules : goal.waiting_at-found-requires-clause-rules
waiting_at-found-requires-clause-rules g c =
    subst (λ (ps : List Production). AreIndexes ps c.in_ok-rules.rules.rows.items) c.as_slice.ensures c.in_ok-rules.ensures.indexes

pub waiting_at-found-requires-clause-coded : goal.waiting_at-found-requires-clause-coded
waiting_at-found-requires-clause-coded g c =
    subst (λ (ps : List Production). AreCoded c.args.operations.now.signatures ps c.in_ok-rules.rules.codes.items) c.as_slice.ensures
    c.in_ok-rules.ensures.coded

pub returns-clause-waits : goal.returns-clause-waits
returns-clause-waits g c =
    IfOk-weaker c.waiting_at-found.result _ _
    (λ found. some_weaker found _ _
    (λ w. waits_at c.parts-lists.result.now c.args.attributes.now c.parts-lists.ensures.parts
    (record { signatures = c.args.operations.now.signatures; meaning = g.M.Meaning.meaning }) c.args.store.now
    c.waiting_at-found.new.store c.args.root c.args.attribute c.args.steps w.memo w.keys.items w.halt c.waiting_at-found.ensures.store
    c.requires.there)) c.waiting_at-found.ensures.waits

pub returns-clause-store : goal.returns-clause-store
returns-clause-store g c = c.waiting_at-found.ensures.store

pub returns-then-steps-eq0-clause-store : goal.returns-then-steps-eq0-clause-store
returns-then-steps-eq0-clause-store g c = same_store c.args.store.now

pub returns-in_err-rules-clause-store : goal.returns-in_err-rules-clause-store
returns-in_err-rules-clause-store g c = same_store c.args.store.now
